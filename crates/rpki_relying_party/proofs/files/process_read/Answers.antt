use Rattle.std.proofs.Common.{ℕ, List, Ok, refl, ap, ◌∙◌}
use Rattle.rpki_relying_party.specs.Costs.{HeldCosts}
use Rattle.rpki_relying_party.specs.Kind.{kind_of}
use Rattle.rpki_relying_party.specs.Outcome.{AppendsBoth}
use Rattle.rpki_relying_party.specs.Passes.{setting}
use Rattle.rpki_relying_party.specs.Tells.{KindTells}
use Rattle.rpki_relying_party.specs.declared.kind.ListedKind.TheVariants as kinds
use Rattle.rpki_relying_party.proofs.Judging.{judged-as}
use Rattle.rpki_relying_party.proofs.Outcomes.{none-spent}
use Rattle.rpki_relying_party.proofs.Putting.{nothing-put}
use Rattle.rpki_relying_party.proofs.files.process_read.Goals as goal

pub returns-in-Roa : goal.returns-in-Roa
returns-in-Roa g c =
    let s = setting g.R.Repository.finds g.C.Crypto.digest_of g.C.Crypto.is_signed
    c.args.pass.now in
    let above = c.args.above.now in
    let list = above.list.now.crl.list in
    judged-as s above.ca.now list above.until above.manifest.now c.args.uri c.args.octets kinds.Roa
    (kind_of c.args.uri)
    (c.in-Roa.ensures ∙ ap (λ (n : List ℕ). kind_of n) c.as_slice.ensures.octets)
    c.args.findings.now c.process_roa.new.findings c.args.room.now c.process_roa.new.room
    c.process_roa.result c.process_roa.ensures

pub returns-in-Aspa : goal.returns-in-Aspa
returns-in-Aspa g c =
    let s = setting g.R.Repository.finds g.C.Crypto.digest_of g.C.Crypto.is_signed
    c.args.pass.now in
    let above = c.args.above.now in
    let list = above.list.now.crl.list in
    judged-as s above.ca.now list above.until above.manifest.now c.args.uri c.args.octets kinds.Aspa
    (kind_of c.args.uri)
    (c.in-Aspa.ensures ∙ ap (λ (n : List ℕ). kind_of n) c.as_slice.ensures.octets)
    c.args.findings.now c.process_aspa.new.findings c.args.room.now c.process_aspa.new.room
    c.process_aspa.result c.process_aspa.ensures

pub returns-in-Ca : goal.returns-in-Ca
returns-in-Ca g c =
    let s = setting g.R.Repository.finds g.C.Crypto.digest_of g.C.Crypto.is_signed
    c.args.pass.now in
    let above = c.args.above.now in
    let list = above.list.now.crl.list in
    judged-as s above.ca.now list above.until above.manifest.now c.args.uri c.args.octets kinds.Ca
    (kind_of c.args.uri)
    (c.in-Ca.ensures ∙ ap (λ (n : List ℕ). kind_of n) c.as_slice.ensures.octets)
    c.args.findings.now c.process_cert.new.findings c.args.room.now c.process_cert.new.room
    c.process_cert.result c.process_cert.ensures

pub returns-in-Other : goal.returns-in-Other
returns-in-Other g c =
    let s = setting g.R.Repository.finds g.C.Crypto.digest_of g.C.Crypto.is_signed
    c.args.pass.now in
    let above = c.args.above.now in
    let list = above.list.now.crl.list in
    judged-as s above.ca.now list above.until above.manifest.now c.args.uri c.args.octets
    kinds.Other (kind_of c.args.uri)
    (c.in-Other.ensures ∙ ap (λ (n : List ℕ). kind_of n) c.as_slice.ensures.octets)
    c.args.findings.now c.args.findings.now c.args.room.now c.args.room.now (Ok tt)
    (none-spent (λ n. AppendsBoth (KindTells s above.ca.now list above.until above.manifest.now
    c.args.uri c.args.octets kinds.Other) c.args.findings.now.said.items
    c.args.findings.now.said.items c.args.findings.now.children.items
    c.args.findings.now.children.items
    × HeldCosts s above.ca.now list kinds.Other c.args.octets n) c.args.room.now (
      nothing-put (KindTells s above.ca.now list above.until above.manifest.now c.args.uri
          c.args.octets kinds.Other) c.args.findings.now.said.items
          c.args.findings.now.children.items (refl, refl),
      refl,
    ))
