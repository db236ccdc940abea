-- A revocation list is one with the dates of its entries, and the other way round.
use Rattle.std.proofs.Common.{◌≡◌, ◌∙◌, ℕ, List, [], ◌∷◌, Option, None, Some, refl, ap, map}
use Rattle.std.specs.Prelude.{unwrap_or}
use Rattle.rpki_der.specs.declared.mode.Mode.{Mode}
use Rattle.rpki_der.specs.Grammar.{Items, Optional}
use Rattle.rpki_der.specs.Form.Parts.{SequenceOf}
use Rattle.rpki_crls.specs.Crl.{CrlForm, RevocationList, Tbs, TbsForm}
use Rattle.rpki_crls.specs.Entry.{CrlEntryForm, RevokedForm}
use Rattle.rpki_show.specs.Dated.{DatedEntryForm, DatedEntriesForm, DatedTbsForm, DatedForm}
use Rattle.rpki_show.specs.Dated.{DatedList, IsDated}
use Rattle.rpki_show.specs.declared.dated.DatedEntry.{DatedEntry}

-- the serial numbers of entries
abbrev serials : List DatedEntry → List ℕ
serials es = map (λ (e : DatedEntry). e.serial) es

cons-same : (a b : ℕ) (xs ys : List ℕ) → a ≡ b → xs ≡ ys → a ∷ xs ≡ b ∷ ys
cons-same a b xs ys p q = cc

module _ (mode : Mode) where
  -- ---- with dates

  entry-dated : (o : List ℕ) (serial : ℕ) → CrlEntryForm mode o serial
      → (e : DatedEntry) × DatedEntryForm mode o e × (serial ≡ e.serial)
  entry-dated o serial h =
      let p = h.2 in
      let q = p.4 in (
        record { serial = serial; date = q.3.0 },
        (h.0, h.1, (p.0, p.1, p.2, p.3, (q.0, q.1, q.2, q.3.1, q.4))),
        refl,
      )

  items-dated : (o : List ℕ) (ns : List ℕ) → Items (CrlEntryForm mode) o ns
      → (es : List DatedEntry) × Items (DatedEntryForm mode) o es × (ns ≡ serials es)
  items-dated o [] h = ([], h, refl)
  items-dated o (n ∷ ns) h =
      let first = entry-dated h.0 n h.3 in
      let others = items-dated h.1 ns h.4 in (
        first.0 ∷ others.0,
        (h.0, h.1, h.2, first.1, others.1),
        cons-same n first.0.serial ns (serials others.0) first.2 others.2,
      )

  written-dated : (o : List ℕ) (ns : List ℕ) (written : Option (List ℕ))
      → Optional (SequenceOf mode (CrlEntryForm mode)) o written → ns ≡ unwrap_or written []
      → (es : List DatedEntry) × DatedEntriesForm mode o es × (ns ≡ serials es)
  written-dated o ns None h e = ([], (None, h, refl), e)
  written-dated o ns (Some ms) h e =
      let items = items-dated h.0 ms h.2 in
      (items.0, (Some items.0, (h.0, h.1, items.1), refl), e ∙ items.2)

  tbs-dated : (o : List ℕ) (t : Tbs) → TbsForm mode o t
      → (d : DatedList) × DatedTbsForm mode o d × IsDated t d
  tbs-dated o t h =
      let a = h.2 in
      let b = a.4 in
      let c = b.4 in
      let d = c.4 in
      let e = d.4 in
      let f = e.4 in
      let entries = written-dated f.0 t.revoked f.3.0 f.3.1 f.3.2 in (
        record {
          this_update = t.this_update;
          next_update = t.next_update;
          revoked = entries.0;
          extensions = t.extensions;
        },
        (
          h.0,
          h.1,
          (
            a.0,
            a.1,
            a.2,
            a.3,
            (
              b.0,
              b.1,
              b.2,
              b.3,
              (
                c.0,
                c.1,
                c.2,
                (t.issuer, c.3),
                (d.0, d.1, d.2, d.3, (e.0, e.1, e.2, e.3, (f.0, f.1, f.2, entries.1, f.4))),
              ),
            ),
          ),
        ),
        record {
          this_update = refl;
          next_update = refl;
          revoked = entries.2;
          extensions = refl;
        },
      )

  pub list-dated : (o : List ℕ) (list : RevocationList) → CrlForm mode o list
      → (d : DatedList) × DatedForm mode o d × IsDated list.tbs d
  list-dated o list h =
      let whole = h.1 in
      let a = whole.2 in
      let b = a.4 in
      let c = b.4 in
      let tbs = tbs-dated a.0 list.tbs a.3.0 in (
        tbs.0,
        (
          whole.0,
          whole.1,
          (
            a.0,
            a.1,
            a.2,
            tbs.1,
            (
              b.0,
              b.1,
              b.2,
              b.3,
              (
                c.0,
                c.1,
                c.2,
                (list.signature, c.3),
                c.4,
              ),
            ),
          ),
        ),
        tbs.2,
      )

  -- ---- without them

  entry-plain : (o : List ℕ) (e : DatedEntry) → DatedEntryForm mode o e
      → CrlEntryForm mode o e.serial
  entry-plain o e h =
      let p = h.2 in
      let q = p.4 in
      (h.0, h.1, (p.0, p.1, p.2, p.3, (q.0, q.1, q.2, (e.date, q.3), q.4)))

  items-plain : (o : List ℕ) (es : List DatedEntry) → Items (DatedEntryForm mode) o es
      → Items (CrlEntryForm mode) o (serials es)
  items-plain o [] h = h
  items-plain o (e ∷ es) h =
      (h.0, h.1, h.2, entry-plain h.0 e h.3, items-plain h.1 es h.4)

  written-plain : (o : List ℕ) (es : List DatedEntry) (written : Option (List DatedEntry))
      → Optional (SequenceOf mode (DatedEntryForm mode)) o written → es ≡ unwrap_or written []
      → RevokedForm mode o (serials es)
  written-plain o es None h e = (None, h, ap serials e)
  written-plain o es (Some fs) h e =
      (Some (serials fs), (h.0, h.1, items-plain h.0 fs h.2), ap serials e)

  tbs-plain : (o : List ℕ) (d : DatedList) → DatedTbsForm mode o d
      → (t : Tbs) × TbsForm mode o t × IsDated t d
  tbs-plain o t h =
      let a = h.2 in
      let b = a.4 in
      let c = b.4 in
      let d = c.4 in
      let e = d.4 in
      let f = e.4 in (
        record {
          issuer = c.3.0;
          this_update = t.this_update;
          next_update = t.next_update;
          revoked = serials t.revoked;
          extensions = t.extensions;
        },
        (
          h.0,
          h.1,
          (
            a.0,
            a.1,
            a.2,
            a.3,
            (
              b.0,
              b.1,
              b.2,
              b.3,
              (
                c.0,
                c.1,
                c.2,
                c.3.1,
                (
                  d.0,
                  d.1,
                  d.2,
                  d.3,
                  (
                    e.0,
                    e.1,
                    e.2,
                    e.3,
                    (
                      f.0,
                      f.1,
                      f.2,
                      written-plain f.0 t.revoked f.3.0 f.3.1 f.3.2,
                      f.4,
                    ),
                  ),
                ),
              ),
            ),
          ),
        ),
        record { this_update = refl; next_update = refl; revoked = refl; extensions = refl },
      )

  pub list-plain : (o : List ℕ) (d : DatedList) → DatedForm mode o d
      → (list : RevocationList) × CrlForm mode o list × IsDated list.tbs d
  list-plain o d h =
      let a = h.2 in
      let b = a.4 in
      let c = b.4 in
      let tbs = tbs-plain a.0 d a.3 in (
        record { tbs = tbs.0; signed = a.0; signature = c.3.0; octets = o },
        (
          refl,
          (
            h.0,
            h.1,
            (
              a.0,
              a.1,
              a.2,
              (tbs.1, refl),
              (
                b.0,
                b.1,
                b.2,
                b.3,
                (c.0, c.1, c.2, c.3.1, c.4),
              ),
            ),
          ),
        ),
        tbs.2,
      )
