-- A refusal that marks the reader.
use Rattle.std.specs.Prelude.{MatchOption}
use Rattle.std.proofs.Common.{Option, Some, None, Err, subst, inl, inr}
use Rattle.rpki_der.specs.declared.error.DecodeError.{DecodeError}
use Rattle.rpki_der.specs.declared.error.DecodeError.TheVariants.{Malformed, Content, Memory}
use Rattle.rpki_der.specs.declared.error.ContentFault.TheVariants.{InvalidSignedAttr, Text}
use Rattle.rpki_der.specs.Read.Parse.{Parser}
use Rattle.rpki_der.specs.Read.State.{State, failing}
use Rattle.rpki_der.specs.Read.Reads.{Reads, Refuses, IsAgain}

-- an error that is answered again tells what the error told
refuses-again : (P : Type 0) (e d : DecodeError) → IsAgain e d → Refuses e P → Refuses d P
refuses-again P Malformed d h r = rw h r
refuses-again P (Content (InvalidSignedAttr attr)) d (inl h) r = rw h r
refuses-again P (Content (InvalidSignedAttr attr)) d (inr h) r = rw h tt
refuses-again P (Content (Text text)) d h r = rw h r
refuses-again P Memory d h r = rw h tt

-- what is answered again twice is answered again
again-again : (e d c : DecodeError) → IsAgain e d → IsAgain d c → IsAgain e c
again-again Malformed d c h k = subst (λ x. IsAgain x c) h k
again-again (Content (InvalidSignedAttr attr)) d c (inl h) k = subst (λ x. IsAgain x c) h k
again-again (Content (InvalidSignedAttr attr)) d c (inr h) k = inr (subst (λ x. IsAgain x c) h k)
again-again (Content (Text text)) d c h k = subst (λ x. IsAgain x c) h k
again-again Memory d c h k = subst (λ x. IsAgain x c) h k

either-again : (P : Type 0) (f : Option DecodeError) (e d : DecodeError) → IsAgain e d
    → MatchOption f (Refuses e P) (λ first. IsAgain first e)
    → MatchOption f (Refuses d P) (λ first. IsAgain first d)
either-again P None e d h r = refuses-again P e d h r
either-again P (Some first) e d h r = again-again first e d r h

-- What a call reads that is refused is refused too where the reader is marked by the refusal.
pub reads_marked : {T X : Type 0} (view : T → X) (p : Parser X) (old mid : State)
    (e d : DecodeError) → Reads view p old (Err e) mid → IsAgain e d
    → Reads view p old (Err d) (failing mid d)
reads_marked view p old mid e d r h = (r.0, either-again _ old.failed e d h r.1)
