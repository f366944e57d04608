-- A message written in one pass, place by place and entry by entry: what it is written as where its logs are well formed, and every row is
-- well formed, agrees with the log and fits; else none. A place that the order log names and that is not above all that it named before has to be
-- in the set of names; else there is none either. A pass goes by the numbers of a table and by an index as they are lent. Where it gives octets, by a table that
-- passes and its own index, they are those of writing: `wholly`.
use Rattle.std.specs.Prelude.{ℕ, suc, ◌+◌, ◌-◌, ◌≤◌, ◌<◌, max, ◌≡◌, List, [], ◌∷◌, not, ◌&&◌, length, drop, ltb, Option as Answered, Some, None}
use Rattle.std.proofs.Math.Option.{Option, none, some}
use Rattle.definitions.specs.Basic.{pick, bit, concat}
use Rattle.definitions.specs.Rows.{rows_of, place_in}
use Rattle.definitions.specs.Logs.{Placed, known_iei, not_known, ignored, kept_list, order_list, put}
use Rattle.placing.specs.Pieces.{Lent, joined, piece_by, held_to, PutBy, Leads}
use Rattle.unnamed.specs.Named.{names, unnamed}
use Rattle.one_pass.specs.declared.Pen.{Pen}

-- ---- the entries

-- what is written from a place on, by an index, by a set of names and by the entries and the kept elements that are left: before a known
-- entry the unnamed places below its own that none came before
unfoldable pub passed : Lent → List ℕ → ℕ → List Placed → ℕ → List (List ℕ) → Option (List ℕ)
passed m ix set [] c ks = joined (unnamed m set c (length (rows_of m.table) - c)) (some (concat ks))
passed m ix set (known_iei i ∷ ps) c ks =
    elim (place_in ix i) [
      | none ↦ passed m ix set ps c ks
      | some k ↦ pick (ltb k c && not (bit k set)) none (joined (unnamed m set c (k - c)) (joined (piece_by m k i) (passed m ix set ps (max c (suc k)) ks)))
    ]
passed m ix set (not_known ∷ ps) c [] = passed m ix set ps c []
passed m ix set (not_known ∷ ps) c (e ∷ ks) = joined (some e) (passed m ix set ps c ks)
passed m ix set (ignored r ∷ ps) c [] = passed m ix set ps c []
passed m ix set (ignored r ∷ ps) c (e ∷ ks) = joined (some e) (passed m ix set ps c ks)

-- the same of what is left of two logs, of which either may be malformed
unfoldable pub left_by : Lent → List ℕ → ℕ → Option (List Placed) → ℕ → Option (List (List ℕ)) → Option (List ℕ)
left_by m ix set none c ks = none
left_by m ix set (some ps) c none = none
left_by m ix set (some ps) c (some ks) = passed m ix set ps c ks

-- all kept elements that are left
unfoldable pub concat_by : Option (List (List ℕ)) → Option (List ℕ)
concat_by none = none
concat_by (some ks) = some (concat ks)

-- all that is left behind the order log
abbrev pub rest_by : Lent → ℕ → List ℕ → Pen → Option (List ℕ)
rest_by m set kept p = joined (unnamed m set p.place (length (rows_of m.table) - p.place)) (concat_by (kept_list (drop p.kept kept)))

-- of two whole logs, by the places that the order log names
unfoldable pub passed_by : Lent → List ℕ → List ℕ → List ℕ → Option (List ℕ)
passed_by m ix order kept = left_by m ix (names ix m.rows order (length (rows_of m.table))) (order_list order) 0 (kept_list kept)

-- ---- a turn of the pass

-- behind a kept element
pub record KeptPut (kept : List ℕ) (p : Pen) (before : List ℕ) (q : Pen) (after : List ℕ) : Type 0 where
  pub element : List ℕ
  pub holds : PutBy (some element) p.at before (Some q.at) after
  pub rest : kept_list (drop p.kept kept) ≡ put element (kept_list (drop q.kept kept))
  pub inside : q.kept ≤ length kept
  pub further : p.kept < q.kept
  pub place : q.place ≡ p.place

-- a kept element that is malformed, or that has no room
pub data KeptNot (kept : List ℕ) (p : Pen) (room : ℕ) : Type 0 where
  malformed : kept_list (drop p.kept kept) ≡ none → KeptNot kept p room
  too_long : (e : List ℕ) (o : Option (List (List ℕ))) → kept_list (drop p.kept kept) ≡ put e o → room < p.at + length e → KeptNot kept p room

abbrev pub KeptBy : List ℕ → Pen → List ℕ → Answered Pen → List ℕ → Type 0
KeptBy kept p before (Some q) after = KeptPut kept p before q after
KeptBy kept p before None after = KeptNot kept p (length before)

-- the same where there may be none left
pub data NextPut (kept : List ℕ) (p : Pen) (before : List ℕ) (q : Pen) (after : List ℕ) : Type 0 where
  over-all : p.kept ≡ length kept → q ≡ p → after ≡ before → NextPut kept p before q after
  next_one : KeptPut kept p before q after → NextPut kept p before q after

abbrev pub NextBy : List ℕ → Pen → List ℕ → Answered Pen → List ℕ → Type 0
NextBy kept p before (Some q) after = NextPut kept p before q after
NextBy kept p before None after = KeptNot kept p (length before)

-- behind a known entry, whatever is left of both logs
pub record KnownOn (m : Lent) (ix : List ℕ) (set i : ℕ) (p : Pen) (before : List ℕ) (q : Pen) (after : List ℕ) : Type 0 where
  pub leads : (ps : Option (List Placed)) (ks : Option (List (List ℕ))) → Leads (left_by m ix set (put (known_iei i) ps) p.place ks) p.at before (left_by m ix set ps q.place ks) q.at after
  pub kept : q.kept ≡ p.kept
  pub room : q.at ≤ length before

abbrev pub KnownBy : Lent → List ℕ → ℕ → ℕ → Pen → List ℕ → Answered Pen → List ℕ → Type 0
KnownBy m ix set i p before (Some q) after = KnownOn m ix set i p before q after
KnownBy m ix set i p before None after =
    (ps : Option (List Placed)) (ks : Option (List (List ℕ))) → held_to (length before) p.at (left_by m ix set (put (known_iei i) ps) p.place ks) ≡ None

-- behind any entry, by what is left of the kept log
pub record EntryOn (m : Lent) (ix : List ℕ) (set : ℕ) (kept : List ℕ) (e : Placed) (p : Pen) (before : List ℕ) (q : Pen) (after : List ℕ) : Type 0 where
  pub leads : (ps : Option (List Placed))
      → Leads (left_by m ix set (put e ps) p.place (kept_list (drop p.kept kept))) p.at before (left_by m ix set ps q.place (kept_list (drop q.kept kept))) q.at after
  pub inside : q.kept ≤ length kept
  pub room : q.at ≤ length before

abbrev pub EntryBy : Lent → List ℕ → ℕ → List ℕ → Placed → Pen → List ℕ → Answered Pen → List ℕ → Type 0
EntryBy m ix set kept e p before (Some q) after = EntryOn m ix set kept e p before q after
EntryBy m ix set kept e p before None after =
    (ps : Option (List Placed)) → held_to (length before) p.at (left_by m ix set (put e ps) p.place (kept_list (drop p.kept kept))) ≡ None

-- behind entries, with more left
pub record Passing (m : Lent) (ix : List ℕ) (set : ℕ) (order kept before : List ℕ) (ps : Option (List Placed)) (q : Pen) (after : List ℕ) : Type 0 where
  pub leads : Leads (left_by m ix set (order_list order) 0 (kept_list kept)) 0 before (left_by m ix set ps q.place (kept_list (drop q.kept kept))) q.at after
  pub inside : q.kept ≤ length kept
  pub room : q.at ≤ length before
  pub long : length after ≡ length before

abbrev pub EntriesBy : Lent → List ℕ → ℕ → List ℕ → List ℕ → List ℕ → Answered Pen → List ℕ → Type 0
EntriesBy m ix set order kept before (Some q) after = Passing m ix set order kept before (some []) q after
EntriesBy m ix set order kept before None after = held_to (length before) 0 (left_by m ix set (order_list order) 0 (kept_list kept)) ≡ None

-- what a message is written as whose kept log has at most 512 octets; none of another
unfoldable pub short_by : Lent → List ℕ → List ℕ → List ℕ → Option (List ℕ)
short_by m ix order kept = pick (ltb 512 (length kept)) none (passed_by m ix order kept)
