use Rattle.std.proofs.Common.{◌≡◌, ◌∙◌, IfErr, IfOk, ap, ℕ, List, rules, subst, sym}
use Rattle.std.specs.Prelude.{All}
use Rattle.rpki_resources.specs.declared.block.Block.{Block}
use Rattle.rpki_resources.specs.declared.family.AddressFamily.TheVariants.{Ipv4}
use Rattle.rpki_resources.specs.declared.resources.Claim.{Claim}
use Rattle.rpki_resources.specs.Family.{IsWithin}
use Rattle.rpki_issued.specs.Tbs.{IsNotSigned, Unsigned, tbs_of, with_v4}
use Rattle.rpki_issued.specs.Written.{ClaimsIpv4, made_certificate}
use Rattle.rpki_examples.proofs.ClaimAlone.{alone, alone-within, claim-alone}
use Rattle.rpki_examples.proofs.claimed.with_private_addresses.Goals as goal

pub into_cert-requires : goal.into_cert-requires
into_cert-requires g c =
    let built = c.in-Ok.ensures.built in
    let blocks : built.1.0 ≡ alone = search rules in
    subst (λ (u : Unsigned). ClaimsIpv4 u.extensions.claims) (sym built.2)
    (c.claims_of_a_family.ensures Ipv4 built.1.0 built.0
    (subst (λ (bs : List (Block ℕ)). All (IsWithin Ipv4) bs) (sym blocks) alone-within) built.1.2)

pub returns-in-Ok-clause-made : goal.returns-in-Ok-clause-made
returns-in-Ok-clause-made g c =
    let built = c.in-Ok.ensures.built in
    let blocks : built.1.0 ≡ alone = search rules in
    let claim = claim-alone c.same_blocks.ensures built.1.0 built.0 blocks built.1.2 in
    subst (λ (u : Unsigned). IfOk c.into_cert.result (λ cert.
    cert.certificate ≡ made_certificate (tbs_of u) cert.certificate.signature))
    (built.2 ∙ ap (λ (x : Claim (List (Block ℕ))). with_v4 c.args.told x) claim)
    c.into_cert.ensures.made

pub returns-in-Ok-clause-refused : goal.returns-in-Ok-clause-refused
returns-in-Ok-clause-refused g c =
    let built = c.in-Ok.ensures.built in
    let blocks : built.1.0 ≡ alone = search rules in
    let claim = claim-alone c.same_blocks.ensures built.1.0 built.0 blocks built.1.2 in
    subst (λ (u : Unsigned). IfErr c.into_cert.result (IsNotSigned
    (g.S.Signer.may_sign c.args.signer.now (g.S.Signer.key_of c.args.signer.now c.args.key.now)) u))
    (built.2 ∙ ap (λ (x : Claim (List (Block ℕ))). with_v4 c.args.told x) claim)
    c.into_cert.ensures.refused
