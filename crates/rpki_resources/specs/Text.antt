-- What is printed of addresses.
use Rattle.std.specs.Prelude.{ℕ, ◌/◌, ◌^◌, List, ◌++◌, Option, None, Some, codes, decimal}
use Rattle.std.specs.Int.{w32, w128, to_be_bytes}
use Rattle.std.specs.Net.Addr.{segments_of}
use Rattle.std.specs.Net.Text.{ipv4_text, hex_groups_text}
use Rattle.rpki_resources.specs.Prefix.{Network}
use Rattle.rpki_resources.specs.declared.family.AddressFamily.{AddressFamily}
use Rattle.rpki_resources.specs.declared.family.AddressFamily.TheVariants.{Ipv4, Ipv6}
use Rattle.rpki_resources.specs.declared.ip.IpBlock.{IpBlock}
use Rattle.rpki_resources.specs.declared.ip.IpBlock.TheVariants.{Prefix, Range}
use Rattle.rpki_resources.specs.declared.text.MaxLenPrefix.{MaxLenPrefix}
use Rattle.rpki_resources.specs.declared.resources.BlocksError.{BlocksError}
use Rattle.rpki_resources.specs.declared.resources.BlocksError.TheVariants.{Inherit, Memory}

-- the eight groups of 16 bits
abbrev pub groups_of : ℕ → List ℕ
groups_of addr = segments_of (to_be_bytes w128 addr)

-- An IPv4 address: the four octets of the upper 32 bits, in decimal, with dots. An IPv6 address:
-- its groups in lower hexadecimal, with colons and the longest run of zeros shortened (RFC 5952,
-- section 4). That none has a dotted part, which section 5 recommends for mapped addresses, is this
-- project's own.
abbrev pub addr_text : AddressFamily → ℕ → List ℕ
addr_text Ipv4 addr = ipv4_text (to_be_bytes w32 (addr / 2 ^ 96))
addr_text Ipv6 addr = hex_groups_text (groups_of addr)

-- a prefix: its address, a slash and its length, as 192.0.2.0/24
abbrev pub prefix_text : AddressFamily → Network → List ℕ
prefix_text family p = addr_text family p.addr ++ (codes "/" ++ decimal p.len)

-- a prefix, or 192.0.2.0-192.0.2.4
abbrev pub block_text : AddressFamily → IpBlock → List ℕ
block_text family (Prefix p) = prefix_text family p
block_text family (Range a b) = addr_text family a ++ (codes "-" ++ addr_text family b)

-- the length after a dash, where there is one
abbrev pub with_max_len : List ℕ → Option ℕ → List ℕ
with_max_len text None = text
with_max_len text (Some len) = text ++ (codes "-" ++ decimal len)

-- 192.0.2.0/24-26, or a prefix by itself
abbrev pub max_len_text : MaxLenPrefix → List ℕ
max_len_text m = with_max_len (prefix_text m.family m.prefix) m.max_len

-- The text that says why a claim has no blocks (this project's own).
abbrev pub blocks_error_text : BlocksError → List ℕ
blocks_error_text Inherit = codes "inherited resources"
blocks_error_text Memory = codes "out of memory"
