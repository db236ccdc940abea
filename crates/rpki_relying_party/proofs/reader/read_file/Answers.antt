-- There is too little room to look for the file, or for its octets.
use Rattle.std.proofs.Common.{◌≡◌, ℕ, List, Result, Ok, inl, inr, refl, subst, arith}
use Rattle.rpki_relying_party.specs.Costs.{ReadStarts, found_cost}
use Rattle.rpki_relying_party.specs.Fetches.{IsFetched}
use Rattle.rpki_relying_party.specs.Passes.{setting}
use Rattle.rpki_relying_party.specs.declared.copy.Fetched.TheVariants as fetched
use Rattle.rpki_relying_party.specs.declared.copy.NoFile.{NoFile}
use Rattle.rpki_relying_party.proofs.Outcomes.{outcome-of-room}
use Rattle.rpki_relying_party.proofs.reader.read_file.Goals as goal

pub returns-in-Err : goal.returns-in-Err
returns-in-Err g c =
    let s = setting g.R.Repository.finds g.C.Crypto.digest_of g.C.Crypto.is_signed
    c.args.pass.now in
    outcome-of-room (ReadStarts s c.args.price c.args.uri.now)
    (λ (found : Result (List ℕ) NoFile) n.
    s.finds c.args.uri.now found × (n ≡ found_cost c.args.price found)) (λ cause n. ⊥)
    c.args.price c.args.room.now c.spend.new.room (inl refl) c.in-Err.stop c.in-Err.ensures

pub returns-in-Larger : goal.returns-in-Larger
returns-in-Larger g c =
    let s = setting g.R.Repository.finds g.C.Crypto.digest_of g.C.Crypto.is_signed
    c.args.pass.now in
    let larger : IsFetched (s.finds c.args.uri.now) c.spend.new.room fetched.Larger =
    subst (IsFetched (s.finds c.args.uri.now) c.spend.new.room) c.in-Larger.is
    (rw c.as_slice.ensures.octets at c.in_ok-why.ensures) in (
      found_cost c.args.price (Ok (larger.0)),
      inr (Ok (larger.0), larger.1, refl),
      omega (arith, c.in_default.ensures, larger.2),
    )
