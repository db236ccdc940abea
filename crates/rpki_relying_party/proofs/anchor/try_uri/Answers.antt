use Rattle.std.proofs.Common.{◌≡◌, refl, rules}
use Rattle.rpki_relying_party.specs.Anchors.{kept_text}
use Rattle.rpki_relying_party.specs.Passes.{setting}
use Rattle.rpki_tal.specs.Uri.{uri_text}
use Rattle.rpki_relying_party.proofs.Anchoring.{uri-first, uri-second, uri-none}
use Rattle.rpki_relying_party.proofs.anchor.try_uri.Goals as goal

pub returns-in-Ok : goal.returns-in-Ok
returns-in-Ok g c =
    let first : c.as_bytes.result.now ≡ uri_text c.args.uri.now = search rules in
    uri-first (setting g.R.Repository.finds g.C.Crypto.digest_of g.C.Crypto.is_signed
    c.args.pass.now) c.args.tal.now.key c.args.uri.now c.as_bytes.result.now
    (kept_text (uri_text c.args.uri.now)) first refl c.in_ok-anchor.field-0
    c.in_ok-anchor.ensures c.in-Ok.anchor c.in-Ok.is

pub returns-in-Ok-2 : goal.returns-in-Ok-2
returns-in-Ok-2 g c =
    let first : c.as_bytes.result.now ≡ uri_text c.args.uri.now = search rules in
    let second : c.deref.result.now ≡ kept_text (uri_text c.args.uri.now) = search rules in
    uri-second (setting g.R.Repository.finds g.C.Crypto.digest_of g.C.Crypto.is_signed
    c.args.pass.now) c.args.tal.now.key c.args.uri.now c.as_bytes.result.now
    c.deref.result.now first second c.in_ok-anchor.field-0 c.in_ok-anchor.ensures
    c.in-Err.fault c.in-Err.is c.in_ok-anchor-in-Err.field-0 c.in_ok-anchor-in-Err.ensures
    c.in-Ok-2.anchor c.in-Ok-2.is

pub returns : goal.returns
returns g c =
    let first : c.as_bytes.result.now ≡ uri_text c.args.uri.now = search rules in
    let second : c.deref.result.now ≡ kept_text (uri_text c.args.uri.now) = search rules in
    uri-none (setting g.R.Repository.finds g.C.Crypto.digest_of g.C.Crypto.is_signed
    c.args.pass.now) c.args.tal.now.key c.args.uri.now c.as_bytes.result.now
    c.deref.result.now first second c.in_ok-anchor.field-0 c.in_ok-anchor.ensures
    c.in-Err.fault c.in-Err.is c.in_ok-anchor-in-Err.field-0 c.in_ok-anchor-in-Err.ensures
    c.in-Err-2.here c.first_fault.result c.in-Err-2.is c.first_fault.ensures
