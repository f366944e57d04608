-- The two logs ("Results" of reading; "Pieces in port order", 3 and 4): the octets of the elements that no row took, and
-- the order in which all came.
use Rattle.std.specs.Prelude.{ℕ, zero, suc, ◌+◌, ◌*◌, ◌/◌, ◌%◌, List, [], ◌∷◌, ◌++◌, Bool, true, false, ◌&&◌, ◌||◌, length, take, drop, ltb, leb, eqb}
use Rattle.std.proofs.Math.Option.{Option, none, some}
use Rattle.definitions.specs.Basic.{pick, is_none, Answer, answer, refuse, refusal, unless, Used, content, too_long, most_octets, most_log, over_at}
use Rattle.definitions.specs.Rows.{Row, place_of, first_iei}
use Rattle.definitions.specs.Elements.{accepted, unknown, malformed, repeated, out_of_sequence, Element, is_accepted, iei_at}

-- ---- the kept log

-- unsigned LEB128 of a count in its shortest form: seven bits an octet, the low ones first, 128 added to all but the last.
-- Three octets serve every count below 2 ^ 21
unfoldable pub leb_f : ℕ → ℕ → List ℕ
leb_f zero n = n ∷ []
leb_f (suc f) n = pick (ltb n 128) (n ∷ []) ((n % 128 + 128) ∷ leb_f f (n / 128))

unfoldable pub leb128 : ℕ → List ℕ
leb128 n = leb_f 2 n

-- an element in the log: its octet count, then its octets
unfoldable pub kept_entry : List ℕ → List ℕ
kept_entry e = leb128 (length e) ++ e

-- the log of a part: each unknown or set-aside element
unfoldable pub kept_of : List Element → List ℕ
kept_of [] = []
kept_of (e ∷ es) = pick (is_accepted e.verdict) (kept_of es) (kept_entry e.octets ++ kept_of es)

-- a count at the front of a log: its value, and how many octets it takes
pub record Count : Type 0 where
  pub value : ℕ
  pub took : ℕ

-- seven bits in front of the bits that follow; where all that follows is 0, the form was not the shortest
unfoldable pub continued : ℕ → Option Count → Option Count
continued a none = none
continued a (some c) = pick (eqb c.value 0) none (some (record { value = a % 128 + 128 * c.value; took = suc c.took }))

-- a count of at most f octets in shortest form
unfoldable pub count_f : ℕ → List ℕ → Option Count
count_f zero s = none
count_f (suc f) [] = none
count_f (suc f) (a ∷ s) = pick (ltb a 128) (some (record { value = a; took = 1 })) (continued a (count_f f s))

-- a count that is not malformed: not 0, not over 65,535, which three octets hold
unfoldable pub allowed : Option Count → Option Count
allowed none = none
allowed (some c) = pick (leb 1 c.value && leb c.value most_octets) (some c) none

unfoldable pub count_at : List ℕ → Option Count
count_at s = allowed (count_f 3 s)

unfoldable pub put {ℓ} : {X : Type ℓ} → X → Option (List X) → Option (List X)
put x none = none
put x (some xs) = some (x ∷ xs)

-- with a count, its element stands behind it, unless that runs past the end; rest says what the log holds behind it
unfoldable pub kept_then : List ℕ → (List ℕ → Option (List (List ℕ))) → Option Count → Option (List (List ℕ))
kept_then s rest none = none
kept_then s rest (some c) =
    let b : List ℕ = drop c.took s in
    pick (leb c.value (length b)) (put (take c.value b) (rest (drop c.value b))) none

-- the elements of a kept log; none where it is malformed. Each takes an octet or more, so the octets are count enough
unfoldable pub kept_list_f : ℕ → List ℕ → Option (List (List ℕ))
kept_list_f zero s = some []
kept_list_f (suc f) [] = some []
kept_list_f (suc f) (x ∷ xs) = kept_then (x ∷ xs) (kept_list_f f) (count_at (x ∷ xs))

unfoldable pub kept_list : List ℕ → Option (List (List ℕ))
kept_list s = kept_list_f (length s) s

-- what a log that is not malformed holds
unfoldable pub or_empty {ℓ} : {X : Type ℓ} → Option (List X) → List X
or_empty none = []
or_empty (some xs) = xs

-- the answer of a call on a log, and the lent log afterwards
pub record Logged : Type 0 where
  pub said : Answer
  pub log : List ℕ

-- pushing an entry behind the octets used: refusal 3, also where the entry is too large or the log would be so after it; 11
-- where the log is bad, that is malformed; 2 where there is no room. which is the value of 11, room that of 2
unfoldable pub pushing : Used → List ℕ → Bool → Bool → ℕ → ℕ → Logged
pushing u entry large bad which room =
    let after : ℕ = u.used + length entry in
    unless
    (refusal
    (refuse (too_long most_log u || (large || ltb most_log after)) 3 []
    ∷ refuse bad 11 (which ∷ [])
    ∷ refuse (ltb (length u.buffer) after) 2 (room ∷ [])
    ∷ []))
    (λ a. record { said = a; log = u.buffer })
    (record { said = answer 0 (after ∷ []); log = over_at u.used entry u.buffer })

-- a question to a log: refusal 3, then 11 where it is malformed, else what it says
unfoldable pub asking : Used → Bool → ℕ → List ℕ → Answer
asking u bad which said =
    unless (refusal (refuse (too_long most_log u) 3 [] ∷ refuse bad 11 (which ∷ []) ∷ [])) (λ a. a) (answer 0 said)

-- `UnknownIes::push`: an IEI and its data, together at most 65,535 octets
unfoldable pub kept_push : Used → ℕ → List ℕ → Logged
kept_push u iei data' =
    pushing u (kept_entry (iei ∷ data')) (ltb most_octets (length (iei ∷ data'))) (is_none (kept_list (content u))) 2 2

-- `UnknownIes::len`: how many elements the log holds
unfoldable pub kept_count : Used → Answer
kept_count u = asking u (is_none (kept_list (content u))) 2 (length (or_empty (kept_list (content u))) ∷ [])

-- where element k of the list stands in a log that begins at a position, and its length, IEI first; past the last none
unfoldable pub kept_at : ℕ → ℕ → List (List ℕ) → List ℕ
kept_at at k [] = []
kept_at at zero (e ∷ es) = (at + length (leb128 (length e))) ∷ length e ∷ []
kept_at at (suc k) (e ∷ es) = kept_at (at + length (kept_entry e)) k es

-- `UnknownIes::get`, from 0
unfoldable pub kept_get : Used → ℕ → Answer
kept_get u k = asking u (is_none (kept_list (content u))) 2 (kept_at 0 k (or_empty (kept_list (content u))))

-- `UnknownIes::clear`: checks nothing; no octet is used, and none changes
unfoldable pub kept_clear : Used → Logged
kept_clear u = record { said = answer 0 (0 ∷ []); log = u.buffer }

-- ---- the order log

-- why an element with a place was set aside
pub data Reason : Type 0 where
  by_form : Reason
  again : Reason
  late : Reason

-- an entry: an accepted element's IEI, an unknown element, a set-aside one
pub data Placed : Type 0 where
  known_iei : ℕ → Placed
  not_known : Placed
  ignored : Reason → Placed

unfoldable pub placed_of : Element → Placed
placed_of e = elim e.verdict [
  | accepted ↦ known_iei (iei_at e)
  | unknown ↦ not_known
  | malformed ↦ ignored by_form
  | repeated ↦ ignored again
  | out_of_sequence ↦ ignored late
]

-- 00 and the IEI; 01 Unknown; 02 Malformed; 03 Repeated; 04 OutOfSequence
unfoldable pub order_entry : Placed → List ℕ
order_entry (known_iei i) = 0 ∷ i ∷ []
order_entry not_known = 1 ∷ []
order_entry (ignored by_form) = 2 ∷ []
order_entry (ignored again) = 3 ∷ []
order_entry (ignored late) = 4 ∷ []

unfoldable pub entries_of : List Element → List ℕ
entries_of [] = []
entries_of (e ∷ es) = order_entry (placed_of e) ++ entries_of es

-- whether an element of place k is accepted, in table order, under the first IEI of its place; least is the lowest place that may come
unfoldable pub plain_at : List Row → ℕ → ℕ → Element → Bool
plain_at t least k e = is_accepted e.verdict && (leb least k && eqb (iei_at e) (first_iei t k))

-- whether every element is so, each of a place above the one before
unfoldable pub plain_from : List Row → ℕ → List Element → Bool
plain_from t least [] = true
plain_from t least (e ∷ es) =
    elim e.place [
      | none ↦ false
      | some k ↦ plain_at t least k e && plain_from t (suc k) es
    ]

-- the log of a part: empty where the table says it all, else an entry for each element
unfoldable pub order_of : List Row → List Element → List ℕ
order_of t es = pick (plain_from t 0 es) [] (entries_of es)

-- the entries of an order log; none where it is malformed, with an entry over 04 or a 00 at its end. Each takes an octet or
-- more, so the octets are count enough
unfoldable pub order_list_f : ℕ → List ℕ → Option (List Placed)
order_list_f zero s = some []
order_list_f (suc f) [] = some []
order_list_f (suc f) (zero ∷ []) = none
order_list_f (suc f) (zero ∷ i ∷ s) = put (known_iei i) (order_list_f f s)
order_list_f (suc f) (suc zero ∷ s) = put not_known (order_list_f f s)
order_list_f (suc f) (suc (suc zero) ∷ s) = put (ignored by_form) (order_list_f f s)
order_list_f (suc f) (suc (suc (suc zero)) ∷ s) = put (ignored again) (order_list_f f s)
order_list_f (suc f) (suc (suc (suc (suc zero))) ∷ s) = put (ignored late) (order_list_f f s)
order_list_f (suc f) (suc (suc (suc (suc (suc n)))) ∷ s) = none

unfoldable pub order_list : List ℕ → Option (List Placed)
order_list s = order_list_f (length s) s

-- the IEI of a place (document 02, item 9): the earliest that the entries of an order log give for it, else its first. A logged IEI is
-- not masked, and an element that was set aside gives none
unfoldable pub iei_for : List Row → List Placed → ℕ → ℕ
iei_for t [] k = first_iei t k
iei_for t (known_iei i ∷ ps) k = elim (place_of t i) [ none ↦ iei_for t ps k | some j ↦ pick (eqb j k) i (iei_for t ps k) ]
iei_for t (not_known ∷ ps) k = iei_for t ps k
iei_for t (ignored r ∷ ps) k = iei_for t ps k

-- `IeOrder::push`
unfoldable pub order_push : Used → Placed → Logged
order_push u p = pushing u (order_entry p) false (is_none (order_list (content u))) 1 3

-- an entry's numbers; past the last none
unfoldable pub entry_at : ℕ → List Placed → List ℕ
entry_at k [] = []
entry_at zero (p ∷ ps) = order_entry p
entry_at (suc k) (p ∷ ps) = entry_at k ps

-- the entry at a number from 0
unfoldable pub order_get : Used → ℕ → Answer
order_get u k = asking u (is_none (order_list (content u))) 1 (entry_at k (or_empty (order_list (content u))))
