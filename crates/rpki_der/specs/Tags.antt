-- The identifier octets of the formats by their names in ASN.1 (X.690, section 8.1.2; X.680, table
-- 1).
use Rattle.std.specs.Prelude.{ℕ, ◌+◌}

-- BOOLEAN (X.690, section 8.2)
abbrev pub BOOLEAN : ℕ
BOOLEAN = 0x01

-- INTEGER (X.690, section 8.3)
abbrev pub INTEGER : ℕ
INTEGER = 0x02

-- BIT STRING, primitive (X.690, section 8.6)
abbrev pub BIT_STRING : ℕ
BIT_STRING = 0x03

-- OCTET STRING in one piece (X.690, section 8.7)
abbrev pub OCTET_STRING : ℕ
OCTET_STRING = 0x04

-- OCTET STRING in pieces, constructed (X.690, section 8.7.3)
abbrev pub OCTET_STRING_IN_PIECES : ℕ
OCTET_STRING_IN_PIECES = 0x24

-- NULL (X.690, section 8.8)
abbrev pub NULL : ℕ
NULL = 0x05

-- OBJECT IDENTIFIER (X.690, section 8.19)
abbrev pub OBJECT_IDENTIFIER : ℕ
OBJECT_IDENTIFIER = 0x06

-- PrintableString, primitive (X.690, section 8.23)
abbrev pub PRINTABLE_STRING : ℕ
PRINTABLE_STRING = 0x13

-- IA5String, primitive (X.690, section 8.23)
abbrev pub IA5_STRING : ℕ
IA5_STRING = 0x16

-- UTCTime, primitive (X.690, section 8.25)
abbrev pub UTC_TIME : ℕ
UTC_TIME = 0x17

-- GeneralizedTime, primitive (X.690, section 8.25)
abbrev pub GENERALIZED_TIME : ℕ
GENERALIZED_TIME = 0x18

-- SEQUENCE and SEQUENCE OF, constructed (X.690, sections 8.9 and 8.10)
abbrev pub SEQUENCE : ℕ
SEQUENCE = 0x30

-- SET and SET OF, constructed (X.690, sections 8.11 and 8.12)
abbrev pub SET : ℕ
SET = 0x31

-- the context tag [n], constructed, for n below 31 (X.690, sections 8.1.2.2, 8.1.2.5 and 8.14)
abbrev pub context : ℕ → ℕ
context n = 0xa0 + n

-- the context tag [n], primitive, for n below 31 (X.690, sections 8.1.2.2, 8.1.2.5 and 8.14)
abbrev pub context_primitive : ℕ → ℕ
context_primitive n = 0x80 + n
