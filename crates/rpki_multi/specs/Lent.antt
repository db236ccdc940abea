-- A builder of an attestation that lends one of its lists: at the end of the loan the builder has
-- what is behind the reference in the place of this list, and is else as it was.
use Rattle.std.specs.Prelude.{Vec}
use Rattle.std.specs.Borrow.{Lends, MutBor, Fml, RattleType}
use Rattle.std.specs.declared.alloc.Global.{Global}
use Rattle.std.specs.contracts.alloc.Global as global
use Rattle.std.specs.contracts.vec.Vec as vec
use Rattle.std.specs.contracts.impls.GlobalAllocator.TheImpl as memory
use Rattle.rpki_certs.specs.Cert.{KeptCertificate}
use Rattle.rpki_certs.specs.contracts.cert.Cert as cert
use Rattle.rpki_crls.specs.Crl.{KeptCrl}
use Rattle.rpki_crls.specs.contracts.crl.Crl as crl
use Rattle.rpki_sigobj.specs.SignerInfo.{KeptSigner}
use Rattle.rpki_multi.specs.Attestation.{KeptWhole}
use Rattle.rpki_multi.specs.Built.{with_certs, with_crls, with_signers}
use Rattle.rpki_multi.specs.contracts.signer.SignerInfo as signer
use Rattle.rpki_multi.specs.contracts.builder.RtaBuilder.{the_row}

-- what is lent, as the logic holds it: vectors
abbrev certs_row : RattleType
certs_row = vec.the_row cert.the_row global.the_row memory.ghosts

-- vectors of revocation lists, as the logic holds them
abbrev crls_row : RattleType
crls_row = vec.the_row crl.the_row global.the_row memory.ghosts

-- vectors of signers, as the logic holds them
abbrev signers_row : RattleType
signers_row = vec.the_row signer.the_row global.the_row memory.ghosts

-- the certificates are lent
abbrev pub LendsCerts : MutBor KeptWhole → MutBor (Vec KeptCertificate Global) → Fml
LendsCerts builder lent =
    Lends the_row certs_row builder lent (λ certs. with_certs builder.now certs.items)

-- the revocation lists are lent
abbrev pub LendsCrls : MutBor KeptWhole → MutBor (Vec KeptCrl Global) → Fml
LendsCrls builder lent =
    Lends the_row crls_row builder lent (λ crls. with_crls builder.now crls.items)

-- the signers are lent
abbrev pub LendsSigners : MutBor KeptWhole → MutBor (Vec KeptSigner Global) → Fml
LendsSigners builder lent =
    Lends the_row signers_row builder lent (λ signers. with_signers builder.now signers.items)
