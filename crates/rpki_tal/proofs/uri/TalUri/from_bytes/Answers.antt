use Rattle.std.proofs.Common.{◌≡◌, codes, rules, subst}
use Rattle.rpki_basics.specs.Uri.{IsRsync, AreRsyncSegments}
use Rattle.rpki_basics.proofs.Uris.Refused.{no-uri}
use Rattle.rpki_tal.proofs.UriFacts.{tal-err}
use Rattle.rpki_tal.proofs.uri.TalUri.from_bytes.Goals as goal

pub returns-in-Err-from_bytes : goal.returns-in-Err-from_bytes
returns-in-Err-from_bytes c =
    let same : c.in_ok-copy.copy ≡ c.args.text = search rules in
    let none : ¬ IsRsync c.args.text = subst (λ t. ¬ IsRsync t) same
    (no-uri (codes "rsync") AreRsyncSegments c.in_ok-copy.copy c.in-Err.field-0
    c.in-Err.ensures) in
    tal-err c.args.text c.in-Err-from_bytes.e none c.in-Err-from_bytes.ensures
