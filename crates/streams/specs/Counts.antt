-- How many octets were read into a buffer.
use Rattle.std.specs.Prelude.{◌≡◌, ℕ, ◌≤◌, List, length, take, Result, Ok, Err}
use Rattle.streams.specs.declared.Unread.{Unread}

-- the front of n octets is in the buffer, and has n
abbrev pub IsPrefixLen : ℕ → List ℕ → Type 0
IsPrefixLen n xs = (n ≤ length xs) × (n ≡ length (take n xs))

-- how many octets stand there, also where a read failed
abbrev pub count_of : Result ℕ Unread → ℕ
count_of (Ok n) = n
count_of (Err unread) = unread.len
