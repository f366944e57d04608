-- Edits in either order (document 02, item 10), in the request's words, sentence by sentence. A message that is edited need not be one
-- that was just read: it is any rows and octets beside any logs, whatever was edited before. `ReadReady` says that what reading
-- left is one.
use Rattle.std.specs.Prelude.{ℕ, ◌+◌, ◌≤◌, ◌<◌, ◌≡◌, List, [], ◌∷◌, Bool, true, false, length, get_or}
use Rattle.definitions.specs.Basic.{Used, most_octets}
use Rattle.definitions.specs.Rows.{Row, rows_of, row_at, form}
use Rattle.definitions.specs.Values.{value_at, present, fits, Edited, setting, clearing}
use Rattle.definitions.specs.Reading.{Lent, Read, reading}
use Rattle.definitions.specs.Writing.{octets_for, Wrote, writing}
use Rattle.promises.specs.RoundTrip.{AreOctets}

-- ---- "Two clerks edit one message"

-- what setting, clearing and writing are handed
pub record Work : Type 0 where
  pub table : List ℕ
  pub rows : List ℕ
  pub received : List ℕ
  pub set : Used
  pub order : Used
  pub kept : Used

pub data Edit : Type 0 where
  sets : ℕ → List ℕ → Edit
  clears : ℕ → Edit

unfoldable pub outcome : Work → Edit → Edited
outcome w (sets k new) = setting w.table w.rows w.received w.set w.order k new
outcome w (clears k) = clearing w.table w.rows w.received w.set k

-- the set octets used after an edit that is done: as many as setting answers; clearing answers nothing
unfoldable pub used_by : Work → Edit → ℕ
used_by w (sets k new) = get_or (outcome w (sets k new)).said.values 0 0
used_by w (clears k) = w.set.used

-- the message after it, with the rows and set octets that it left
unfoldable pub after : Work → Edit → Work
after w e =
    record {
      table = w.table;
      rows = (outcome w e).rows;
      received = w.received;
      set = record { buffer = (outcome w e).set; used = used_by w e };
      order = w.order;
      kept = w.kept;
    }

-- the message after some edits, one after the other; and that each of them is done
unfoldable pub after_all : Work → List Edit → Work
after_all w [] = w
after_all w (e ∷ es) = after_all (after w e) es

unfoldable pub AllDone : Work → List Edit → Type 0
AllDone w [] = Unit
AllDone w (e ∷ es) = ((outcome w e).said.number ≡ 0) × AllDone (after w e) es

-- ---- ".. writes the same octets"

unfoldable pub wrote : Work → List ℕ → Wrote
wrote w output = writing w.table w.rows w.received w.set w.order w.kept output

-- these edits and those are all done, and writing is the same after either, into any output: the same answer, with the same count, and
-- the same octets. The place rows and the set octets may differ
pub record Alike (w : Work) (es es' : List Edit) : Type 0 where
  pub these : AllDone w es
  pub those : AllDone w es'
  pub same : (output : List ℕ) → wrote (after_all w es) output ≡ wrote (after_all w es') output

-- "All set values fit their forms, and .. set octets have room" is that the edits named first are done, here and below: `EditsDone`
-- says when they are

-- "setting two different places in either order writes the same octets"
abbrev pub EitherOrder : Type 0
EitherOrder =
    (w : Work) (j k : ℕ) (a b : List ℕ) → (j ≡ k → ⊥) → AllDone w (sets j a ∷ sets k b ∷ [])
    → Alike w (sets j a ∷ sets k b ∷ []) (sets k b ∷ sets j a ∷ [])

-- "setting one place twice writes what the last setting alone writes"
abbrev pub LastAlone : Type 0
LastAlone = (w : Work) (k : ℕ) (a b : List ℕ) → AllDone w (sets k a ∷ sets k b ∷ []) → Alike w (sets k a ∷ sets k b ∷ []) (sets k b ∷ [])

-- "setting an absent place and clearing it writes what was written before"
abbrev pub SetAndCleared : Type 0
SetAndCleared =
    (w : Work) (k : ℕ) (a : List ℕ) → present (value_at w.rows k) ≡ false → AllDone w (sets k a ∷ [])
    → Alike w (sets k a ∷ clears k ∷ []) []

-- ---- "All set values fit their forms, and output and set octets have room, the latter within 65,535"

-- how many octets it is written as
unfoldable pub needs : Work → ℕ
needs w = length (octets_for (record { table = rows_of w.table; rows = w.rows; received = w.received; set = w.set; order = w.order; kept = w.kept }))

-- all that writing asks for is room for them
abbrev pub Ready : Work → Type 0
Ready w = (output : List ℕ) → needs w ≤ length output → (wrote w output).said.number ≡ 0

-- an edit of a place that is there, and to a value that fits its form
unfoldable pub Fitting : List Row → Edit → Type 0
Fitting t (sets k new) = (k < length t) × (fits (form (row_at t k)) 2 new ≡ true)
Fitting t (clears k) = k < length t

unfoldable pub AllFitting : List Row → List Edit → Type 0
AllFitting t [] = Unit
AllFitting t (e ∷ es) = Fitting t e × AllFitting t es

-- the octets of all values that are set
unfoldable pub octets_set : List Edit → ℕ
octets_set [] = 0
octets_set (sets k new ∷ es) = length new + octets_set es
octets_set (clears k ∷ es) = octets_set es

-- room for as many set octets more
pub record Room (w : Work) (n : ℕ) : Type 0 where
  pub limit : w.set.used + n ≤ most_octets
  pub lent : w.set.used + n ≤ length w.set.buffer

-- any number of edits, of any places in any order: they are all done, and with room for what is written so is writing
abbrev pub EditsDone : Type 0
EditsDone = (w : Work) (es : List Edit) → Ready w → AllFitting (rows_of w.table) es → Room w (octets_set es) → AllDone w es × Ready (after_all w es)

-- "For a part that decoded": what reading left, with the part as received octets and no set octets, whatever the room for them holds
unfoldable pub work_of : List ℕ → List ℕ → Read → List ℕ → Work
work_of table part r set =
    record {
      table = table;
      rows = r.rows;
      received = part;
      set = record { buffer = set; used = 0 };
      order = record { buffer = r.order; used = get_or r.said.values 1 0 };
      kept = record { buffer = r.kept; used = get_or r.said.values 0 0 };
    }

abbrev pub ReadReady : Type 0
ReadReady =
    (table : List ℕ) (start : ℕ) (option : Bool) (part : List ℕ) (l : Lent) (set : List ℕ) → AreOctets part → (reading table start option part l).said.number ≡ 0
    → Ready (work_of table part (reading table start option part l) set)
