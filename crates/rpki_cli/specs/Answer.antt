-- What the program says for an answer, and what its two streams have taken then.
use Rattle.std.specs.Prelude.{◌≡◌, ℕ, ◌+◌, ◌⊎◌, List, Option, ◌++◌, string_bytes, codes}
use Rattle.std.specs.Io.KnownBytes.{Appends}
use Rattle.rpki_der.specs.Write.Sink.{AppendsFront}
use Rattle.rpki_der.specs.Write.Encode.{Sunk}
use Rattle.rpki_cli.specs.declared.answer.Answer.{Answer}
use Rattle.rpki_cli.specs.declared.answer.Answer.TheVariants.{Usage, CannotRead, BadVerdicts}
use Rattle.rpki_cli.specs.declared.answer.Answer.TheVariants.{OutOfMemory, Malformed, MalformedBy}
use Rattle.rpki_cli.specs.declared.answer.Answer.TheVariants.{Refused, IssuerMalformed}
use Rattle.rpki_cli.specs.declared.answer.Answer.TheVariants.{IssuerRefused, Shown}

-- what a run did to standard output and to standard error, and its exit status
pub record Run : Type 0 where
  pub out_before : Sunk
  pub out_after : Sunk
  pub err_before : Sunk
  pub err_after : Sunk
  pub status : ℕ

-- the run of a call with these two sinks
abbrev pub run_of : {O E : Type 0} → (O → Option (List ℕ)) → (O → ℕ) → O → O → (E → Option (List ℕ))
    → (E → ℕ) → E → E → ℕ → Run
run_of out_taken out_failures out out' err_taken err_failures err err' status = record {
  out_before = (out_taken out, out_failures out);
  out_after = (out_taken out', out_failures out');
  err_before = (err_taken err, err_failures err);
  err_after = (err_taken err', err_failures err');
  status = status;
}

-- no call of the sink has failed, all of the octets are written, and the status is the wanted one
pub record IsWhole (octets : List ℕ) (wanted : ℕ) (old new : Sunk) (status : ℕ) : Type 0 where
  pub written : Appends old.0 new.0 octets
  pub no_failure : new.1 ≡ old.1
  pub status_is : status ≡ wanted

-- one call of the sink has failed: a beginning of the octets is written, and the status is 2
pub record IsCut (octets : List ℕ) (old new : Sunk) (status : ℕ) : Type 0 where
  pub begun : AppendsFront old.0 new.0 octets
  pub one_failure : new.1 ≡ old.1 + 1
  pub status_is : status ≡ 2

-- the octets are written with this status, or a call of the sink has failed
abbrev pub Writes : List ℕ → ℕ → Sunk → Sunk → ℕ → Type 0
Writes octets wanted old new status =
    IsWhole octets wanted old new status ⊎ IsCut octets old new status

-- the octets are written on standard output, and standard error is left alone
pub record Prints (octets : List ℕ) (wanted : ℕ) (run : Run) : Type 0 where
  pub out : Writes octets wanted run.out_before run.out_after run.status
  pub err : run.err_after ≡ run.err_before

-- the octets are written on standard error, and standard output is left alone
pub record Complains (octets : List ℕ) (wanted : ℕ) (run : Run) : Type 0 where
  pub err : Writes octets wanted run.err_before run.err_after run.status
  pub out : run.out_after ≡ run.out_before

-- what a program puts out: a text, and the status that goes with it
pub data Output : Type 0 where
  -- on standard output
  Printed : (text : List ℕ) (status : ℕ) → Output
  -- on standard error
  Complained : (text : List ℕ) (status : ℕ) → Output

-- the words are those of no order, or of one that is not built
abbrev pub usage : Output
usage = Complained (codes "usage\n") 2

-- a file can't be read
abbrev pub cannot_read : List ℕ → Output
cannot_read file = Complained (codes "cannot read " ++ (file ++ codes "\n")) 2

-- a file is no list of verdicts
abbrev pub bad_verdicts : Output
bad_verdicts = Complained (codes "bad verdicts\n") 2

-- that no memory was to be had, as a text
abbrev pub memory_text : List ℕ
memory_text = codes "out of memory"

-- no memory was to be had
abbrev pub out_of_memory : Output
out_of_memory = Complained (memory_text ++ codes "\n") 3

-- that a file is not, or does not begin with, what was asked for, as a text
abbrev pub malformed_text : List ℕ
malformed_text = codes "malformed"

-- a file is not, or does not begin with, what was asked for
abbrev pub malformed : Output
malformed = Printed (malformed_text ++ codes "\n") 1

-- the answer that a file is malformed, for this cause
abbrev pub malformed_by : List ℕ → Output
malformed_by cause = Printed (codes "malformed: " ++ (cause ++ codes "\n")) 1

-- an object is refused, for this cause
abbrev pub refused : List ℕ → Output
refused cause = Printed (codes "refused: " ++ (cause ++ codes "\n")) 1

-- certificates make no issuer, for this cause
abbrev pub issuer_refused : List ℕ → Output
issuer_refused cause = Printed (codes "issuer refused: " ++ (cause ++ codes "\n")) 1

-- certificates make no issuer, since one of them is not read
abbrev pub issuer_malformed : Output
issuer_malformed = issuer_refused malformed_text

-- these lines are shown
abbrev pub shown : List ℕ → Output
shown lines = Printed lines 0

-- what an answer says
abbrev pub said : Answer → Output
said Usage = usage
said (CannotRead file) = cannot_read file.now
said BadVerdicts = bad_verdicts
said OutOfMemory = out_of_memory
said Malformed = malformed
said (MalformedBy cause) = malformed_by (string_bytes cause)
said (Refused cause) = refused (string_bytes cause)
said IssuerMalformed = issuer_malformed
said (IssuerRefused cause) = issuer_refused (string_bytes cause)
said (Shown lines) = shown (string_bytes lines)

-- the run says it
abbrev pub IsSaid : Output → Run → Type 0
IsSaid (Printed text status) run = Prints text status run
IsSaid (Complained text status) run = Complains text status run
