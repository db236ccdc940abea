-- What is answered where checks are followed by a question to the caller.
use Rattle.std.proofs.Common.{◌≡◌, ◌⊎◌, inl, inr, List, ◌++◌}
use Rattle.rpki_faults.specs.Checks.{Check, AllHold, IsFirstFault}
use Rattle.rpki_faults.proofs.Order.{first-join, hold-join}
use Rattle.rpki_certs.specs.Cert.{KeptCertificate}
use Rattle.rpki_certs.specs.Validate.{Validated, IsValidatedUnder}

-- the certificate of one that was validated
pub cert-under : (c : KeptCertificate) (issuer v : Validated) → IsValidatedUnder c issuer v
    → v.cert ≡ c
unfolding IsValidatedUnder
cert-under c issuer v h = h.0

-- a fault for want of memory, of the first check that does not hold, or where all hold a later one
abbrev pub RefusesThen : {F : Type 0} → F → List (Check F) → F → Type 0 → Type 0
RefusesThen memory checks fault Later =
    (fault ≡ memory) ⊎ (IsFirstFault checks fault ⊎ (AllHold checks × Later))

module _ {F : Type 0} (memory : F) (checks : List (Check F)) (fault : F) where
  -- the same, after checks that hold
  pub refuses-after : {Later : Type 0} (front : List (Check F)) → AllHold front
      → RefusesThen memory checks fault Later → RefusesThen memory (front ++ checks) fault Later
  refuses-after front held (inl h) = inl h
  refuses-after front held (inr (inl h)) =
      inr (inl (first-join front checks fault (inr (held, h))))
  refuses-after front held (inr (inr h)) = inr (inr (hold-join front checks (held, h.0), h.1))

  -- the same, where more follows a yes
  pub refuses-anyway : {No Yes Later : Type 0}
      → RefusesThen memory checks fault (No ⊎ (Yes × ⊥))
      → RefusesThen memory checks fault (No ⊎ Later)
  refuses-anyway (inl h) = inl h
  refuses-anyway (inr (inl h)) = inr (inl h)
  refuses-anyway (inr (inr (held, inl h))) = inr (inr (held, inl h))
  refuses-anyway (inr (inr (held, inr h))) = absurd h.1
