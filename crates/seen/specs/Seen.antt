-- A set of places as two numbers of 64 bits.
use Rattle.std.specs.Prelude.{ℕ, ◌+◌, ◌*◌, ◌/◌, ◌%◌, ◌^◌, ltb}
use Rattle.definitions.specs.Basic.{pick}
use Rattle.definitions.specs.Elements.{including}
use Rattle.seen.specs.declared.Seen.{Seen}

-- the number whose bits the two hold
abbrev pub set_of : Seen → ℕ
set_of s = s.high * 2 ^ 64 + s.low

-- the two that hold a number's lowest 128 bits
abbrev pub seen_of : ℕ → Seen
seen_of n = record { low = n % 2 ^ 64; high = n / 2 ^ 64 }

-- a set with a place in it; a place from 128 on is none
unfoldable pub including_place : ℕ → ℕ → ℕ
including_place k set = pick (ltb k 128) (including k set) set
