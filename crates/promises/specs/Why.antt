-- Why an element was set aside, in words of ours, sentence by sentence; the statements are `Grounded` and `Answered`, at the end.
use Rattle.std.specs.Prelude.{ℕ, ◌≤◌, ◌<◌, ◌≡◌, List, [], ◌∷◌, ◌++◌, Bool, false, length, drop}
use Rattle.std.proofs.Math.Option.{none, some}
use Rattle.definitions.specs.Basic.{Answer, answer, receivable}
use Rattle.definitions.specs.Rows.{Row, rows_of, row_at, form, of_half}
use Rattle.definitions.specs.Length.{header, whole}
use Rattle.definitions.specs.Elements.{Verdict, accepted, unknown, malformed, repeated, out_of_sequence, Element, elements, parted}
use Rattle.definitions.specs.Why.{Fault, cut_off, under_least, kind_barred, Why, was_accepted, was_unknown, was_malformed, was_repeated, was_out_of_sequence, why_numbers, explaining}
use Rattle.promises.specs.Room.{Readable}

-- ---- "The ground of a repeat is an earlier element of the same place, set aside or not, and no element before that one has the
-- place."

unfoldable pub NoneAt : ℕ → List Element → Type 0
NoneAt k [] = Unit
NoneAt k (e ∷ es) = (e.place ≡ some k → ⊥) × NoneAt k es

-- the first of the elements es that has the place k; it starts at `at`
pub record Earliest (k at : ℕ) (es : List Element) : Type 0 where
  pub front : List Element
  pub ground : Element
  pub rest : List Element
  pub stands : es ≡ front ++ (ground ∷ rest)
  pub starts : ground.at ≡ at
  pub there : ground.place ≡ some k
  pub none_before : NoneAt k front

-- ---- "That of an element out of sequence is the first element of the highest place met before it, set aside or not; that place is
-- above its own."

unfoldable pub NoneAbove : ℕ → List Element → Type 0
NoneAbove h [] = Unit
NoneAbove h (e ∷ es) = ((k : ℕ) → e.place ≡ some k → k ≤ h) × NoneAbove h es

pub record Below (k at : ℕ) (es : List Element) : Type 0 where
  pub highest : ℕ
  pub above : k < highest
  pub none_above : NoneAbove highest es
  pub first : Earliest highest at es

-- ---- "Of the three faults of a malformed element, cut short, under the least length, kind not allowed, the first that is true is
-- named": a later one only where the ones before it are not true.

unfoldable pub FirstFault : Row → List ℕ → Fault → Type 0
FirstFault r s cut_off = whole (form r) s ≡ none
FirstFault r s under_least = (whole (form r) s ≡ some (length s)) × (length s < r.least)
FirstFault r s kind_barred =
    (whole (form r) s ≡ some (length s)) × (r.least ≤ length s) × (receivable (of_half r) r.kinds (drop (header (form r)) s) ≡ false)

-- ---- "The reason is the verdict of reading; an accepted or unknown element gets that word only."

-- what the element e, with a verdict and behind the elements es, is told
pub data Ground (t : List Row) (es : List Element) (e : Element) : Verdict → Why → Type 0 where
  no_more : Ground t es e accepted was_accepted
  not_known : Ground t es e unknown was_unknown
  faulty : (k : ℕ) (f : Fault) → e.place ≡ some k → FirstFault (row_at t k) e.octets f → Ground t es e malformed (was_malformed f)
  again : (k at : ℕ) → e.place ≡ some k → Earliest k at es → Ground t es e repeated (was_repeated at)
  late : (k at : ℕ) → e.place ≡ some k → Below k at es → Ground t es e out_of_sequence (was_out_of_sequence at)

-- ---- the whole

-- what stands behind the answer for the element number n: the part decodes, n elements are before that one, and the values are its
-- verdict with its ground
pub record Told (table : List ℕ) (start : ℕ) (option : Bool) (part : List ℕ) (n : ℕ) (a : Answer) : Type 0 where
  pub before : List Element
  pub element : Element
  pub behind : List Element
  pub reads : parted (rows_of table) start option part ≡ elements (before ++ (element ∷ behind))
  pub numbered : length before ≡ n
  pub why : Why
  pub says : a ≡ answer 0 (why_numbers why)
  pub ground : Ground (rows_of table) before element element.verdict why

-- of every answer that is no refusal
abbrev pub Grounded : Type 0
Grounded =
    (table : List ℕ) (start : ℕ) (option : Bool) (part : List ℕ) (n : ℕ) → (explaining table start option part n).number ≡ 0
    → Told table start option part n (explaining table start option part n)

-- and every element of a part that decodes gets one: of n elements, those numbered 0 to n - 1; from n on the answer is 27
abbrev pub Answered : Type 0
Answered =
    (table : List ℕ) (start : ℕ) (option : Bool) (part : List ℕ) (es : List Element) (n : ℕ) → Readable table part
    → parted (rows_of table) start option part ≡ elements es
    → (n < length es → (explaining table start option part n).number ≡ 0) × (length es ≤ n → explaining table start option part n ≡ answer 27 [])
