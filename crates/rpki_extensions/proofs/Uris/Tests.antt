-- The tests of URIs tell what a URI is.
use Rattle.std.proofs.Common.{◌≡◌, ℕ, ◌+◌, Bool, true, false, cond, List, [], ◌∷◌}
use Rattle.std.proofs.Common.{length, get_or, drop, Option, Some, None, Ok, Err}
use Rattle.std.proofs.Common.{refl, sym, codes}
use Rattle.std.specs.Prelude.{Decides, ◌==◌, nat_lt}
use Rattle.std.specs.List.{list_all}
use Rattle.std.proofs.lemmas.Bool.{eqb-true, eq-eqb, ltb-true, lt-ltb, and_parts, and_from}
use Rattle.std.proofs.lemmas.Slice.Eq.{bytes_eq-Decides}
use Rattle.rpki_basics.specs.Segments.{segments}
use Rattle.rpki_basics.specs.Uri.{is_uri_octet, GoesOn, IsUri, IsUriOf, AreRsyncSegments}
use Rattle.rpki_basics.specs.Uri.{AreHttpsSegments, IsRsync, IsHttps}
use Rattle.rpki_basics.specs.Uri.Tests.{are_rsync_segments, are_https_segments}
use Rattle.rpki_basics.specs.declared.uri.Error.{Error}
use Rattle.rpki_basics.proofs.Uris.Refused.{no-uri}
use Rattle.rpki_basics.proofs.Uris.Tests.{follows-at, placed, rsync-true, rsync-is, https-true}
use Rattle.rpki_basics.proofs.Uris.Tests.{https-is}
use Rattle.rpki_extensions.specs.Uri.{does_go_on, has_scheme, is_uri, rsync_of, https_of}

module _ {P : List (List ℕ) → Type 0} {test : List (List ℕ) → Bool}
    (to : (ps : List (List ℕ)) → test ps ≡ true → P ps)
    (from : (ps : List (List ℕ)) → P ps → test ps ≡ true) where
  goes-on : (text : List ℕ) → does_go_on test text ≡ true → GoesOn P text
  goes-on [] e = absurd cc
  goes-on (a ∷ []) e = absurd cc
  goes-on (a ∷ b ∷ rest) e =
      let p = and_parts (a == 47) _ e in
      let q = and_parts (b == 47) (test (segments rest)) p.1 in
      let first : a ≡ 47 = eqb-true a 47 p.0 in
      let second : b ≡ 47 = eqb-true b 47 q.0 in
      (rest, rw (first, second) refl, to (segments rest) q.1)

  on-goes : (text : List ℕ) → GoesOn P text → does_go_on test text ≡ true
  on-goes text g = rw g.1 (from (segments g.0) g.2)

  pub uri-true : (scheme text : List ℕ) → is_uri scheme test text ≡ true → IsUri scheme P text
  uri-true scheme text e =
      let a = and_parts (list_all is_uri_octet text) _ e in
      let b = and_parts (has_scheme scheme text) _ a.1 in
      let c = and_parts (nat_lt (length scheme) (length text)) _ b.0 in
      let d = and_parts (get_or text (length scheme) 58 == 58) _ c.1 in
      let colon : get_or text (length scheme) 58 ≡ 58 = eqb-true _ 58 d.0 in (
        a.0,
        (
          drop (length scheme + 1) text,
          follows-at scheme text 58 (ltb-true _ _ c.0) (sym colon) refl
              ((bytes_eq-Decides _ scheme).0 d.1),
          goes-on (drop (length scheme + 1) text) b.1,
        ),
      )

  pub uri-is : (scheme text : List ℕ) → IsUri scheme P text → is_uri scheme test text ≡ true
  uri-is scheme text h =
      let p = placed scheme text h.1.0 h.1.1 in
      let on : does_go_on test (drop (length scheme + 1) text) ≡ true =
      rw p.after (on-goes h.1.0 h.1.2) in
      and_from _ _ h.0 (and_from _ _ (and_from _ _ (lt-ltb _ _ p.long)
      (and_from _ _ (eq-eqb _ 58 (p.colon 58)) ((bytes_eq-Decides _ scheme).1 p.letters))) on)

pub rsync-decides : (text : List ℕ)
    → Decides (is_uri (codes "rsync") are_rsync_segments text) (IsRsync text)
rsync-decides text = (
  uri-true rsync-true rsync-is (codes "rsync") text,
  uri-is rsync-true rsync-is (codes "rsync") text,
)

pub https-decides : (text : List ℕ)
    → Decides (is_uri (codes "https") are_https_segments text) (IsHttps text)
https-decides text = (
  uri-true https-true https-is (codes "https") text,
  uri-is https-true https-is (codes "https") text,
)

kept : {A : Type 0} {P : Type 0} (t : Bool) (x : A) → Decides t P → P
    → Some x ≡ cond t (Some x) None
kept t x d p = rw (d.1 p) refl

left-out : {A : Type 0} {P : Type 0} (t : Bool) (x : A) → Decides t P → ¬ P
    → (let n : Option A = None in n) ≡ cond t (Some x) None
left-out true x d out = absurd (out (d.0 refl))
left-out false x d out = refl

-- what is answered of a text
pub rsync-kept : (text uri : List ℕ) → IsUriOf (codes "rsync") AreRsyncSegments text (Ok uri)
    → (let u : Option (List ℕ) = Some uri in u) ≡ rsync_of text
rsync-kept text uri h = rw h.0 (kept _ text (rsync-decides text) h.1)

pub rsync-out : (text : List ℕ) (e : Error)
    → IsUriOf (codes "rsync") AreRsyncSegments text (Err e)
    → (let n : Option (List ℕ) = None in n) ≡ rsync_of text
rsync-out text e h = left-out _ text (rsync-decides text)
    (no-uri (codes "rsync") AreRsyncSegments text e h)

pub https-kept : (text uri : List ℕ) → IsUriOf (codes "https") AreHttpsSegments text (Ok uri)
    → (let u : Option (List ℕ) = Some uri in u) ≡ https_of text
https-kept text uri h = rw h.0 (kept _ text (https-decides text) h.1)

pub https-out : (text : List ℕ) (e : Error)
    → IsUriOf (codes "https") AreHttpsSegments text (Err e)
    → (let n : Option (List ℕ) = None in n) ≡ https_of text
https-out text e h = left-out _ text (https-decides text)
    (no-uri (codes "https") AreHttpsSegments text e h)
