-- The rows of places beside the order log, an entry at a time, and the IEI that it gives a wanted place.
use Rattle.std.specs.Prelude.{ℕ, ◌≡◌, List, [], true, false, ◌&&◌, not, eqb, Option as Answered, Some, None}
use Rattle.std.proofs.Math.Option.{Option, none, some}
use Rattle.definitions.specs.Basic.{pick, bit}
use Rattle.definitions.specs.Rows.{Row, rows_of, first_iei, first_bad, place_of, index}
use Rattle.definitions.specs.Logs.{Placed, known_iei, not_known, ignored, order_list, or_empty, iei_for}
use Rattle.definitions.specs.Values.{apart}
use Rattle.seen.specs.Seen.{set_of}
use Rattle.agreement.specs.Agreed.{entry_set, entry_apart, Agreeing}
use Rattle.edits.specs.declared.log.Agreed.{Agreed}

-- a table that passes, and its index
pub record Tabled (table entries : List ℕ) : Type 0 where
  pub passes : first_bad (rows_of table) ≡ none
  pub indexed : entries ≡ index (rows_of table)

-- the IEI of a wanted place with one entry more, by the place of the entry's
abbrev pub known_wanted : ℕ → ℕ → ℕ → ℕ → Option ℕ → ℕ
known_wanted want set iei before none = before
known_wanted want set iei before (some k) = pick (eqb k want && not (bit k set)) iei before

unfoldable pub entry_wanted : List Row → ℕ → Placed → ℕ → ℕ → ℕ
entry_wanted t want (known_iei i) set before = known_wanted want set i before (place_of t i)
entry_wanted t want not_known set before = before
entry_wanted t want (ignored r) set before = before

pub record AgreedWith (t : List Row) (rows : List ℕ) (want : ℕ) (p : Placed) (a r : Agreed) : Type 0 where
  pub set_is : set_of r.seen ≡ entry_set t p (set_of a.seen)
  pub apart-is : r.apart ≡ entry_apart t rows p (set_of a.seen) a.apart
  pub iei-is : r.iei ≡ entry_wanted t want p (set_of a.seen) a.iei

-- with entries left: a wanted place that was seen has its IEI, one that was not its first
pub record Agrees (t : List Row) (rows : List ℕ) (want : ℕ) (all left : List Placed) (a : Agreed) : Type 0 where
  pub rows_agree : Agreeing t rows all left (set_of a.seen) a.apart
  pub was-seen : bit want (set_of a.seen) ≡ true → a.iei ≡ iei_for t all want
  pub not_seen : bit want (set_of a.seen) ≡ false → a.iei ≡ first_iei t want

abbrev pub AgreedBy : List Row → List ℕ → ℕ → List ℕ → Agreed → Type 0
AgreedBy t rows want order a = Agrees t rows want (or_empty (order_list order)) [] a

-- whether a row disagrees; if none does, the wanted place's IEI
abbrev pub JudgedBy : List Row → List ℕ → ℕ → List ℕ → Answered ℕ → Type 0
JudgedBy t rows want order None = apart t (or_empty (order_list order)) rows ≡ true
JudgedBy t rows want order (Some i) = (apart t (or_empty (order_list order)) rows ≡ false) × (i ≡ iei_for t (or_empty (order_list order)) want)
