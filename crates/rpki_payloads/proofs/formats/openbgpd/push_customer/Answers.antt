use Rattle.std.proofs.Common.{◌∙◌, ◌++◌, ℕ, List, Option, codes, decimal, subst}
use Rattle.rpki_show.specs.Grows.{Grows}
use Rattle.rpki_payloads.specs.Formats.Fields.{expires_words}
use Rattle.rpki_payloads.specs.Formats.Groups.{expires_of}
use Rattle.rpki_payloads.proofs.formats.openbgpd.push_customer.Goals as goal

abbrev words : ℕ → Option ℕ → List ℕ
words n e = codes "\tcustomer-as " ++ (decimal n ++ (expires_words e ++ codes " provider-as {"))

pub returns : goal.returns
returns c =
    subst (λ (n : ℕ). Grows c.write.result c.args.text.now c.write.new.self
    (words n (expires_of c.args.group.now)))
    (c.into_u32-customer.ensures ∙ c.customer.ensures)
    (subst (λ (e : Option ℕ). Grows c.write.result c.args.text.now c.write.new.self
    (words c.into_u32-customer.result e)) c.expires.ensures c.write.ensures.bytes)
