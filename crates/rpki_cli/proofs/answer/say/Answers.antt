use Rattle.std.proofs.Common.{refl}
use Rattle.rpki_cli.proofs.answer.say.Goals as goal

pub returns-in-CannotRead : goal.returns-in-CannotRead
returns-in-CannotRead g c =
    rw c.in-CannotRead.is
    (record { err = rw c.as_bytes.ensures.value at c.write_line.ensures; out = refl })

pub returns-in-BadVerdicts : goal.returns-in-BadVerdicts
returns-in-BadVerdicts g c =
    rw c.in-BadVerdicts.is (record { err = c.write-in-BadVerdicts.ensures; out = refl })

pub returns-in-OutOfMemory : goal.returns-in-OutOfMemory
returns-in-OutOfMemory g c =
    rw c.in-OutOfMemory.is
    (record {
      err = rw c.as_bytes-in-OutOfMemory.ensures.value at c.write_line-in-OutOfMemory.ensures;
      out = refl;
    })

pub returns-in-Malformed : goal.returns-in-Malformed
returns-in-Malformed g c =
    rw c.in-Malformed.is (record { out = c.write_line-in-Malformed.ensures; err = refl })

pub returns-in-Refused : goal.returns-in-Refused
returns-in-Refused g c =
    rw c.in-Refused.is
    (record {
      out = rw c.as_bytes-in-Refused.ensures.value at c.write_line-in-Refused.ensures;
      err = refl;
    })

pub returns-in-IssuerMalformed : goal.returns-in-IssuerMalformed
returns-in-IssuerMalformed g c =
    rw c.in-IssuerMalformed.is
    (record { out = c.write_line-in-IssuerMalformed.ensures; err = refl })

pub returns-in-IssuerRefused : goal.returns-in-IssuerRefused
returns-in-IssuerRefused g c =
    rw c.in-IssuerRefused.is
    (record {
      out = rw c.as_bytes-in-IssuerRefused.ensures.value at c.write_line-in-IssuerRefused.ensures;
      err = refl;
    })

pub returns-in-MalformedBy : goal.returns-in-MalformedBy
returns-in-MalformedBy g c =
    rw c.in-MalformedBy.is
    (record {
      out = rw c.as_bytes-in-MalformedBy.ensures.value at c.write_line-in-MalformedBy.ensures;
      err = refl;
    })
