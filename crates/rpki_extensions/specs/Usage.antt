-- What the key of a certificate is for. The sections are those of RFC 5280, where no other RFC is
-- named.
use Rattle.std.specs.Prelude.{◌≡◌, ◌<◌, ◌-◌, ◌/◌, ◌%◌, ◌^◌, ℕ, List, Bool, ◌&&◌, ◌==◌, nat_lt}
use Rattle.std.specs.Prelude.{get_or, Option, Some, None, if◌then◌else◌}
use Rattle.rpki_der.specs.declared.mode.Mode.{Mode}
use Rattle.rpki_der.specs.Grammar.{BitString}
use Rattle.rpki_der.specs.Form.Made.{Understood, partly}
use Rattle.rpki_der.specs.Read.Parse.{Parser, bits_at}
use Rattle.rpki_faults.specs.declared.usage.KeyUsage.{KeyUsage}
use Rattle.rpki_faults.specs.declared.usage.KeyUsage.TheVariants.{Ca, Ee}
use Rattle.rpki_resources.specs.Ip.Form.{bit_count}

-- The bit of this number is set. Bits are counted from 0, which is the highest one of the first
-- octet (X.690, section 8.6.2.1); those that are not used are no bits (X.690, section 8.6.2.2).
abbrev pub IsBitSet : ℕ → List ℕ × ℕ → Type 0
IsBitSet n bits = (n < bit_count bits) × (get_or bits.0 (n / 8) 0 / 2 ^ (7 - n % 8) % 2 ≡ 1)

-- the number of the bit digitalSignature (4.2.1.3)
abbrev pub digital_signature : ℕ
digital_signature = 0

-- the number of the bit keyCertSign (4.2.1.3)
abbrev pub key_cert_sign : ℕ
key_cert_sign = 5

-- the number of the bit cRLSign (4.2.1.3)
abbrev pub crl_sign : ℕ
crl_sign = 6

-- The key signs certificates and revocation lists.
abbrev pub SignsCertificates : List ℕ × ℕ → Type 0
SignsCertificates bits = IsBitSet key_cert_sign bits × IsBitSet crl_sign bits

-- The bits are this usage, one of the two that are allowed (RFC 6487, section 4.8.4): that of a CA
-- where keyCertSign and cRLSign are set, and that of an end entity where digitalSignature is set
-- and not both of the others. Two rules are this project's own: further bits may be set, and a
-- usage that has those of a CA and of an end entity is that of a CA.
abbrev pub IsUsage : List ℕ × ℕ → KeyUsage → Type 0
IsUsage bits Ca = SignsCertificates bits
IsUsage bits Ee = ¬ SignsCertificates bits × IsBitSet digital_signature bits

-- KeyUsage: BIT STRING (4.2.1.3), whose bits are the usage by `IsUsage`. That bits that are zero
-- may end it in DER too, against X.690, section 11.2.2, is this project's own rule.
abbrev pub KeyUsageForm : Mode → List ℕ → KeyUsage → Type 0
KeyUsageForm mode = Understood IsUsage (BitString mode)

-- ---- as functions

-- whether the bit of this number is set
abbrev pub is_bit_set : ℕ → List ℕ × ℕ → Bool
is_bit_set n bits =
    nat_lt n (bit_count bits) && (get_or bits.0 (n / 8) 0 / 2 ^ (7 - n % 8) % 2 == 1)

-- the usage that the bits are, if it is allowed
abbrev pub usage_of : List ℕ × ℕ → Option KeyUsage
usage_of bits =
    if is_bit_set key_cert_sign bits && is_bit_set crl_sign bits then Some Ca
    else if is_bit_set digital_signature bits then Some Ee
    else None

-- What reads a key usage: that of a CA or of an end entity.
abbrev pub key_usage_at : Parser KeyUsage
key_usage_at = partly usage_of bits_at
