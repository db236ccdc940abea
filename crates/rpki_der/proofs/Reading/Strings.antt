-- OCTET STRINGs are read exactly.
use Rattle.std.proofs.Common.{◌≡◌, ℕ, zero, suc, ◌-◌, ◌≤◌, Bool, true, false, cond, List, [], ◌∷◌}
use Rattle.std.proofs.Common.{◌++◌, length, Option, Some, None, refl, sym, ap, subst, ◌∙◌}
use Rattle.std.proofs.Common.{append_assoc, arith, inl, inr}
use Rattle.std.specs.Prelude.{◌⊎◌, nat_eq}
use Rattle.std.proofs.lemmas.Bool.{eqb-true, ne_eqb}
use Rattle.std.proofs.lemmas.List.{length-append, append-nil}
use Rattle.rpki_der.specs.Tags.{OCTET_STRING, OCTET_STRING_IN_PIECES}
use Rattle.rpki_der.specs.declared.mode.Mode.{Mode}
use Rattle.rpki_der.specs.declared.mode.Mode.TheVariants.{Der, Ber}
use Rattle.rpki_der.specs.Read.Parse.{Parser, ◌>>=◌, body_at, value_at, any_at, is_next, all_of}
use Rattle.rpki_der.specs.Read.Parse.{in_ber, pieces, string_of, octets_at, after_others}
use Rattle.std.specs.List.{concat}
use Rattle.rpki_der.specs.Grammar.{Value, Items, OctetString, IsBytes}
use Rattle.rpki_der.specs.Read.Exact.{IsExact, anything}
use Rattle.rpki_der.proofs.Reading.Lengths.{bind_some, chosen, some_is}
use Rattle.rpki_der.proofs.Reading.Scan.{value-some}
use Rattle.rpki_der.proofs.Reading.Exact.{any-sound, any-complete, IsBytes-contents}
use Rattle.rpki_der.proofs.Reading.Exact.{IsExactContents}
use Rattle.rpki_der.proofs.Reading.Skips.{Takes, exact-all, all-more, all-none, all-end}

pub octets-front : (depth : ℕ) (mode : Mode) (b s r : List ℕ) → octets_at depth mode b ≡ Some (s, r)
    → (front : List ℕ) × (b ≡ front ++ r) × (1 ≤ length front)
unfolding octets_at
octets-front zero mode b s r e = absurd cc
octets-front (suc depth) mode b s r e =
    let v = bind_some (any_at mode b) _ (s, r) e in
    let w = bind_some (string_of (octets_at depth) mode v.0.0.0 v.0.0.1) _ (s, r) v.2 in
    let q : (let t : List ℕ × List ℕ = (w.0, v.0.1) in t) ≡ (s, r) = some_is _ _ w.2 in
    let f = any-sound mode b v.0.0 v.0.1 v.1 in
    (f.0, f.1 ∙ ap (λ (t : List ℕ × List ℕ). f.0 ++ t.1) q, value-some mode f.0 v.0.0.0 v.0.0.1 f.2)

pub octets-takes : (depth : ℕ) (mode : Mode) → Takes (octets_at depth mode)
octets-takes depth mode = record {
  at = λ b s r e.
      let f = octets-front depth mode b s r e in
      let len : length b ≡ length (f.0 ++ r) = ap length f.1 in
      omega (arith, len, length-append f.0 r, f.2);
}

-- a value whose octets are these, where each piece is in G
abbrev IsString : Mode → (List ℕ → List ℕ → Type 0) → List ℕ → List ℕ → Type 0
IsString mode G o s =
    Value mode o OCTET_STRING s
    ⊎ ((mode ≡ Ber) × (c : List ℕ) × (ps : List (List ℕ))
    × Value mode o OCTET_STRING_IN_PIECES c × Items G c ps × (s ≡ concat ps))

in_ber-some : {X : Type 0} (mode : Mode) (o : Option X) (x : X) → in_ber mode o ≡ Some x
    → (mode ≡ Ber) × (o ≡ Some x)
in_ber-some Der o x e = absurd cc
in_ber-some Ber o x e = (refl, e)

string-sound : (p : Parser (List ℕ)) (mode : Mode) (G : List ℕ → List ℕ → Type 0)
    → IsExactContents (all_of p mode) (Items G) → (o : List ℕ) (tag : ℕ) (c s : List ℕ)
    → Value mode o tag c → IsBytes c → string_of p mode tag c ≡ Some s → IsString mode G o s
string-sound p mode G e o tag c s v bytes h =
    elim (chosen (nat_eq tag 4) (Some c) _ (Some s) h) [
      | inl x ↦
          let is : tag ≡ 4 = eqb-true _ _ x.0 in
          let same : c ≡ s = some_is _ _ x.1 in
          inl (subst (λ (t : List ℕ). Value mode o OCTET_STRING t) same
          (subst (λ (n : ℕ). Value mode o n c) is v))
      | inr x ↦ elim (chosen (nat_eq tag 36) (in_ber mode (pieces p mode c)) None (Some s) x.1) [
        | inl y ↦
            let is : tag ≡ 36 = eqb-true _ _ y.0 in
            let b = in_ber-some mode (pieces p mode c) s y.1 in
            let ps = bind_some (all_of p mode c) _ s b.1 in
            inr (
              b.0,
              c,
              ps.0,
              subst (λ (n : ℕ). Value mode o n c) is v,
              e.sound c ps.0 bytes ps.1,
              sym (some_is _ _ ps.2),
            )
        | inr y ↦ absurd (let no : (let n : Option (List ℕ) = None in n) ≡ Some s = y.1 in cc)
      ]
    ]

in-ber : {X : Type 0} (mode : Mode) (o : Option X) → mode ≡ Ber → in_ber mode o ≡ o
in-ber Der o e = absurd cc
in-ber Ber o e = refl

pieces-complete : (p : Parser (List ℕ)) (mode : Mode) (c : List ℕ) (ps : List (List ℕ)) (s : List ℕ)
    → mode ≡ Ber → all_of p mode c ≡ Some ps → s ≡ concat ps → string_of p mode 36 c ≡ Some s
pieces-complete p mode c ps s m e is = in-ber mode (pieces p mode c) m ∙ rw (e, is) refl

pub exact-octets : (depth : ℕ) (mode : Mode)
    → IsExact anything (octets_at depth mode) (OctetString mode depth)
unfolding octets_at OctetString
exact-octets zero mode =
    record { sound = λ b x r bytes e. absurd cc; complete = λ o x r er h. absurd h }
exact-octets (suc depth) mode =
    let inner = exact-all (octets_at depth) mode (octets-takes depth mode) (OctetString mode depth)
    (exact-octets depth mode) in
    record {
      sound = λ b s r bytes e.
          let v = bind_some (any_at mode b) _ (s, r) e in
          let w = bind_some (string_of (octets_at depth) mode v.0.0.0 v.0.0.1) _ (s, r) v.2 in
          let q : (let t : List ℕ × List ℕ = (w.0, v.0.1) in t) ≡ (s, r) = some_is _ _ w.2 in
          let f = any-sound mode b v.0.0 v.0.1 v.1 in
          let within = IsBytes-contents mode b f.0 v.0.1 v.0.0.0 v.0.0.1 f.1 f.2 bytes in
          let is = string-sound (octets_at depth) mode
          (OctetString mode depth) inner f.0 v.0.0.0 v.0.0.1 w.0 f.2 within w.1 in (
            f.0,
            f.1 ∙ ap (λ (t : List ℕ × List ℕ). f.0 ++ t.1) q,
            subst (λ (t : List ℕ × List ℕ). IsString mode (OctetString mode depth) f.0 t.0) q is,
          );
      complete = λ o s r er h.
          elim h [
            | inl k ↦ rw (any-complete mode o 4 s r k) refl
            | inr k ↦
                let t = pieces-complete (octets_at depth) mode k.1 k.2 s k.0
                (inner.complete k.1 k.2 k.4) k.5 in
                rw (any-complete mode o 36 k.1 r k.3, t) refl
          ];
    }

-- ---- what the code needs

pub octets-none-at : (depth : ℕ) (mode : Mode) (b : List ℕ) → depth ≡ 0
    → octets_at depth mode b ≡ None
unfolding octets_at
octets-none-at zero mode b e = refl
octets-none-at (suc depth) mode b e = absurd (omega (arith, e))

pub octets-none : (depth : ℕ) (mode : Mode) (b : List ℕ) → any_at mode b ≡ None
    → octets_at depth mode b ≡ None
unfolding octets_at
octets-none zero mode b e = refl
octets-none (suc depth) mode b e = rw e refl

pub octets-is : (depth : ℕ) (mode : Mode) (b : List ℕ) (t : ℕ) (c r : List ℕ) → 1 ≤ depth
    → any_at mode b ≡ Some ((t, c), r)
    → octets_at depth mode b ≡ (string_of (octets_at (depth - 1)) mode t c >>= λ s. Some (s, r))
unfolding octets_at
octets-is zero mode b t c r h e = absurd (omega (arith, h))
octets-is (suc depth) mode b t c r h e = let z : suc depth - 1 ≡ depth = omega arith in
    rw (e, z) refl

pub octets-primitive : (depth : ℕ) (mode : Mode) (b : List ℕ) (t : ℕ) (c r : List ℕ) → 1 ≤ depth
    → any_at mode b ≡ Some ((t, c), r) → t ≡ 4 → octets_at depth mode b ≡ Some (c, r)
octets-primitive depth mode b t c r h e is = rw (octets-is depth mode b t c r h e) (rw is refl)

pub octets-other : (depth : ℕ) (mode : Mode) (b : List ℕ) (t : ℕ) (c r : List ℕ) → 1 ≤ depth
    → any_at mode b ≡ Some ((t, c), r) → (t ≡ 4 → ⊥) → (t ≡ 36 → ⊥) → octets_at depth mode b ≡ None
octets-other depth mode b t c r h e not4 not36 =
    let x : nat_eq t 4 ≡ false = ne_eqb _ _ not4 in
    let y : nat_eq t 36 ≡ false = ne_eqb _ _ not36 in
    rw (octets-is depth mode b t c r h e) (rw (x, y) refl)

no-string : (k : Bool) → (let o : Option (List ℕ) = cond k None None in o) ≡ None
no-string true = refl
no-string false = refl

pub octets-der : (depth : ℕ) (mode : Mode) (b : List ℕ) (t : ℕ) (c r : List ℕ) → 1 ≤ depth
    → any_at mode b ≡ Some ((t, c), r) → (t ≡ 4 → ⊥) → mode ≡ Der → octets_at depth mode b ≡ None
octets-der depth Ber b t c r h e not4 m = absurd cc
octets-der depth Der b t c r h e not4 m =
    let x : nat_eq t 4 ≡ false = ne_eqb _ _ not4 in
    rw (octets-is depth Der b t c r h e) (rw x (rw (no-string (nat_eq t 36)) refl))

pub octets-pieces : (depth : ℕ) (mode : Mode) (b : List ℕ) (t : ℕ) (c r : List ℕ)
    (o : Option (List ℕ)) → 1 ≤ depth → any_at mode b ≡ Some ((t, c), r) → t ≡ 36 → mode ≡ Ber
    → pieces (octets_at (depth - 1)) mode c ≡ o
    → octets_at depth mode b ≡ (o >>= λ s. Some (s, r))
octets-pieces depth Der b t c r o h e is m p = absurd cc
octets-pieces depth Ber b t c r o h e is m p =
    rw (octets-is depth Ber b t c r h e) (rw (is, p) refl)

joined-more : (x : List ℕ) (o : Option (List (List ℕ)))
    → ((o >>= λ xs. Some (x ∷ xs)) >>= λ parts. Some (concat parts))
    ≡ after_others x (o >>= λ parts. Some (concat parts))
joined-more x None = refl
joined-more x (Some xs) = refl

after_others-twice : (a b : List ℕ) (o : Option (List ℕ))
    → after_others a (after_others b o) ≡ after_others (a ++ b) o
after_others-twice a b None = refl
after_others-twice a b (Some s) =
    ap (λ (t : List ℕ). (let o : Option (List ℕ) = Some t in o)) (sym (append_assoc a b s))

-- what was put after the old octets so far
pub record PutSoFar (p : Parser (List ℕ)) (mode : Mode) (old now : List ℕ)
    (contents rest : List ℕ) : Type 0 where
  pub put : List ℕ
  pub now_is : now ≡ old ++ put
  pub left : after_others put (pieces p mode rest) ≡ pieces p mode contents

after_others-none : (o : Option (List ℕ)) → after_others [] o ≡ o
after_others-none None = refl
after_others-none (Some s) = refl

pub put-none : (p : Parser (List ℕ)) (mode : Mode) (old contents : List ℕ)
    → PutSoFar p mode old old contents contents
put-none p mode old contents =
    record {
      put = [];
      now_is = sym (append-nil old);
      left =
          after_others-none (pieces p mode contents);
    }

pieces-more : (p : Parser (List ℕ)) (mode : Mode) → Takes (p mode) → (b x r : List ℕ)
    → p mode b ≡ Some (x, r) → pieces p mode b ≡ after_others x (pieces p mode r)
pieces-more p mode takes [] x r e = absurd (let lt = takes.at [] x r e in omega (arith, lt))
pieces-more p mode takes (a ∷ b) x r e =
    rw (all-more p mode takes a b x r e) (joined-more x (all_of p mode r))

pieces-none : (p : Parser (List ℕ)) (mode : Mode) → Takes (p mode) → (b : List ℕ) → 1 ≤ length b
    → p mode b ≡ None → pieces p mode b ≡ None
pieces-none p mode takes [] h e = absurd (omega (arith, h))
pieces-none p mode takes (a ∷ b) h e = rw (all-none p mode takes a b e) refl

pieces-end : (p : Parser (List ℕ)) (mode : Mode) → Takes (p mode) → (b : List ℕ) → length b ≡ 0
    → pieces p mode b ≡ Some []
pieces-end p mode takes [] e = rw (all-end p mode takes) refl
pieces-end p mode takes (a ∷ b) e = absurd (omega (arith, e))

pub put-more : (p : Parser (List ℕ)) (mode : Mode) → Takes (p mode)
    → (old now contents rest x r new : List ℕ) → PutSoFar p mode old now contents rest
    → p mode rest ≡ Some (x, r) → new ≡ now ++ x → PutSoFar p mode old new contents r
put-more p mode takes old now contents rest x r new s e is = record {
  put = s.put ++ x;
  now_is = is ∙ ap (λ (t : List ℕ). t ++ x) s.now_is ∙ append_assoc old s.put x;
  left = sym (after_others-twice s.put x (pieces p mode r))
      ∙ ap (after_others s.put) (sym (pieces-more p mode takes rest x r e)) ∙ s.left;
}

pub put-fails : (p : Parser (List ℕ)) (mode : Mode) → Takes (p mode)
    → (old now contents rest : List ℕ) → PutSoFar p mode old now contents rest → 1 ≤ length rest
    → p mode rest ≡ None → pieces p mode contents ≡ None
put-fails p mode takes old now contents rest s h e = sym s.left
    ∙ ap (after_others s.put) (pieces-none p mode takes rest h e)

pub put-all : (p : Parser (List ℕ)) (mode : Mode) → Takes (p mode)
    → (old now contents rest : List ℕ) → (s : PutSoFar p mode old now contents rest)
    → length rest ≡ 0 → pieces p mode contents ≡ Some s.put
put-all p mode takes old now contents rest s h = sym s.left
    ∙ ap (after_others s.put) (pieces-end p mode takes rest h)
    ∙ ap (λ (t : List ℕ). (let o : Option (List ℕ) = Some t in o)) (append-nil s.put)

pub not-der : (mode : Mode) → (mode ≡ Der → ⊥) → mode ≡ Ber
not-der Der h = absurd (h refl)
not-der Ber h = refl

next-string : (depth : ℕ) (mode : Mode) (b : List ℕ) (o : Option (List ℕ × List ℕ))
    → body_at 4 mode b ≡ o → octets_at (suc depth) mode (4 ∷ b) ≡ value_at OCTET_STRING mode (4 ∷ b)
unfolding octets_at any_at value_at
next-string depth mode b None e = rw e refl
next-string depth mode b (Some (c, r)) e = rw e refl

-- a primitive OCTET STRING is its contents
pub octets_next : (mode : Mode) (b : List ℕ) → is_next OCTET_STRING b ≡ true
    → octets_at 32 mode b ≡ value_at OCTET_STRING mode b
octets_next mode [] e = absurd cc
octets_next mode (t ∷ b) e = let four : t ≡ 4 = eqb-true _ _ e in
    rw four (next-string 31 mode b (body_at 4 mode b) refl)
