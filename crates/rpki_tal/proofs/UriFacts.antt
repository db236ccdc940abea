-- URIs of trust anchors, each of one kind.
use Rattle.std.proofs.Common.{◌≡◌, ℕ, List, [], ◌∷◌, ◌++◌, map, codes, Err}
use Rattle.std.proofs.Common.{sym, ap, subst, ◌∙◌, arith}
use Rattle.std.specs.Char.{to_ascii_lowercase}
use Rattle.rpki_der.specs.Grammar.{Front, HasNoFront}
use Rattle.rpki_basics.specs.declared.uri.Error.{Error}
use Rattle.rpki_basics.specs.declared.uri.Error.TheVariants.{InvalidCharacters, BadScheme, BadUri}
use Rattle.rpki_basics.specs.declared.uri.Error.TheVariants.{Memory}
use Rattle.rpki_basics.specs.Uri.{IsUri, IsUriOf, IsRsync, IsHttps, AreRsyncSegments}
use Rattle.rpki_basics.specs.Uri.{AreHttpsSegments}
use Rattle.rpki_basics.proofs.Uris.Refused.{no-uri}
use Rattle.rpki_tal.specs.declared.uri.TalUri.{TalUri}
use Rattle.rpki_tal.specs.declared.uri.TalUri.TheVariants.{Rsync, Https}
use Rattle.rpki_tal.specs.Lines.{IsLine}
use Rattle.rpki_tal.specs.Uri.{IsTalUri, IsNoTalUri, IsTalUriOf}
use Rattle.rpki_tal.specs.Form.{IsUriLine}
use Rattle.rpki_tal.proofs.LineFacts.{IsLineKind, line-kind, first-line}

pub no-tal-uri : (text : List ℕ) (cause : Error) → IsNoTalUri text cause → (uri : TalUri)
    → ¬ IsTalUri text uri
no-tal-uri text cause h (Rsync uri) k = h.0 k.1
no-tal-uri text cause h (Https uri) k =
    no-uri (codes "https") AreHttpsSegments text cause h.1 k.1

pub tal-err : (text : List ℕ) (e : Error) → ¬ IsRsync text
    → IsUriOf (codes "https") AreHttpsSegments text (Err e) → IsTalUriOf text (Err e)
tal-err text InvalidCharacters n h = (n, h)
tal-err text BadScheme n h = (n, h)
tal-err text BadUri n h = (n, h)
tal-err text Memory n h = tt

-- the letters of one scheme are not those of the other
apart : (n m r s : List ℕ) → n ++ 58 ∷ r ≡ m ++ 58 ∷ s
    → map to_ascii_lowercase n ≡ 114 ∷ 115 ∷ 121 ∷ 110 ∷ 99 ∷ []
    → map to_ascii_lowercase m ≡ 104 ∷ 116 ∷ 116 ∷ 112 ∷ 115 ∷ [] → ⊥
apart [] m r s e h k = absurd (cc h)
apart (a ∷ n) [] r s e h k = absurd (cc k)
apart (a ∷ n) (b ∷ m) r s e h k =
    let same : a ≡ b = cc e in
    let p : to_ascii_lowercase a ≡ 114 = cc h in
    let q : to_ascii_lowercase b ≡ 104 = cc k in
    absurd (omega (arith, sym p ∙ ap to_ascii_lowercase same ∙ q))

schemes : (text : List ℕ) → IsRsync text → IsHttps text → ⊥
schemes text h k =
    apart h.1.1.0 k.1.1.0 h.1.0 k.1.0 (sym h.1.1.1 ∙ k.1.1.1) h.1.1.2 k.1.1.2

-- a text is one URI
pub uri-one : (text : List ℕ) (u v : TalUri) → IsTalUri text u → IsTalUri text v → u ≡ v
uri-one text (Rsync u) (Rsync v) h k = ap (λ (t : List ℕ). Rsync t) (h.0 ∙ sym k.0)
uri-one text (Rsync u) (Https v) h k = absurd (schemes text h.1 k.1)
uri-one text (Https u) (Rsync v) h k = absurd (schemes text k.1 h.1)
uri-one text (Https u) (Https v) h k = ap (λ (t : List ℕ). Https t) (h.0 ∙ sym k.0)

pub uri-line-kind : IsLineKind IsUriLine
uri-line-kind = record {
  line = λ o u h. line-kind.line o h.0 h.1;
  one = λ o u v h k.
      let same : h.0 ≡ k.0 = line-kind.one o h.0 k.0 h.1 k.1 in
      uri-one k.0 u v (subst (λ (t : List ℕ). IsTalUri t u) same h.2) k.2;
}

-- no URI is empty
no-text : (scheme : List ℕ) (P : List (List ℕ) → Type 0) → IsUri scheme P [] → ⊥
no-text scheme P h = at h.1.1.0 h.1.1.1
  where
    at : (name : List ℕ) → [] ≡ name ++ 58 ∷ h.1.0 → ⊥
    at [] e = absurd cc
    at (n ∷ name) e = absurd cc

some-text : (uri : TalUri) → IsTalUri [] uri → ⊥
some-text (Rsync u) h = no-text (codes "rsync") AreRsyncSegments h.1
some-text (Https u) h = no-text (codes "https") AreHttpsSegments h.1

-- where a line with this text begins that is no URI, no line with a URI begins
other-line : (end line rest : List ℕ) → Front IsLine end line rest
    → ((uri : TalUri) → ¬ IsTalUri line uri) → HasNoFront IsUriLine end
other-line end line rest f none uri more g =
    let same = first-line IsLine line-kind f.0 g.0 rest more line g.2.0 f.2 g.2.1
    (sym f.1 ∙ g.1) in
    none uri (subst (λ (t : List ℕ). IsTalUri t uri) (sym same.1) g.2.2)

pub empty-line : (end rest : List ℕ) → Front IsLine end [] rest → HasNoFront IsUriLine end
empty-line end rest f = other-line end [] rest f some-text

pub bad-line : (end line rest : List ℕ) (cause : Error) → Front IsLine end line rest
    → IsNoTalUri line cause → HasNoFront IsUriLine end
bad-line end line rest cause f h = other-line end line rest f (no-tal-uri line cause h)
