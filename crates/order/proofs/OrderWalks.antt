-- A walk over an order log, as the walk over either log: the entry that is remembered stands for what is found.
-- Then the question by what a whole walk tells, and whether there is a list at all.
use Prim.Native.Nat.{ℕ, ◌≤◌, ◌<◌}
use native.Mathlib.Omega.{arith}
use mathlib.Core.Path.{◌≡◌, refl, sym}
use mathlib.Core.List.{List, [], ◌∷◌}
use mathlib.Core.Option.{Option, none, some}
use lib.ListN.{length, take, drop}
use Rattle.std.specs.Prelude.{Option as Answered, Some, None, Ok}
use Rattle.definitions.specs.Basic.{is_none, answer, content, most_log}
use Rattle.definitions.specs.Logs.{Placed, put, order_list, order_get}
use Rattle.definitions.proofs.Orders.{order_front}
use Rattle.definitions.proofs.Logs.{not-long, asking-done, asking-bad}
use Rattle.definitions.proofs.LogSteps.{order-split, order-stop}
use Rattle.definitions.proofs.LogWalks.{order_log, Walking, stepped, stopped, told-log, told-bad}
use Rattle.kept.specs.Kept.{used_of}
use Rattle.order.specs.Order.{wanted_as, entry_as, tell, start_walk, Stepped}
use Rattle.order.specs.declared.Placed.{Placed as Remembered}
use Rattle.order.specs.declared.OrderWalk.{OrderWalk}

abbrev pub WalkAt : List ℕ → ℕ → OrderWalk → Type 0
WalkAt content want w = Walking order_log want content w.at w.count (wanted_as w.wanted)

module _ (content : List ℕ) (want : ℕ) (w : OrderWalk) (i : WalkAt content want w) (inside : w.at < length content) where
  abbrev s : List ℕ
  s = drop w.at content

  pub stepped-on : (v : OrderWalk) → Stepped w want (order_front s) (Some v) → WalkAt content want v × (w.at < v.at)
  stepped-on v h = of (order_front s) refl h
    where
      of : (o : Option Placed) → order_front s ≡ o → Stepped w want o (Some v) → WalkAt content want v × (w.at < v.at)
      of none q h = absurd h
      of (some p) q h =
          let k = order-split content w.at inside q in
          let l : order_list s ≡ put p (order_list (drop v.at content)) = rw h.at k.splits in
          let further : w.at < v.at = omega (arith, h.at, k.octet) in
          (stepped order_log want content i p further (omega (arith, h.at, k.within)) h.at h.count h.wanted l, further)

  pub stopped-at : Stepped w want (order_front s) None → none ≡ tell start_walk want (order_list content)
  stopped-at h = of (order_front s) refl h
    where
      of : (o : Option Placed) → order_front s ≡ o → Stepped w want o None → none ≡ tell start_walk want (order_list content)
      of none q h = stopped order_log want content i (order-stop content w.at inside q)
      of (some p) q h = absurd h

pub get-log : (log : List ℕ) (used k : ℕ) → used ≤ length log → used ≤ most_log → {found : List ℕ} → some found ≡ tell start_walk k (order_list (take used log))
    → answer 0 found ≡ order_get (used_of log used) k
unfolding order_get content
get-log log used k h g e =
    let t = told-log order_log k (order_list (take used log)) e in
    rw t.is (sym (asking-done (used_of log used) _ 1 _ (not-long most_log (used_of log used) h g) t.good))

-- the same of a log that is malformed
pub get-bad : (log : List ℕ) (used k : ℕ) → used ≤ length log → used ≤ most_log → none ≡ tell start_walk k (order_list (take used log))
    → answer 11 (1 ∷ []) ≡ order_get (used_of log used) k
unfolding order_get content
get-bad log used k h g e = sym (asking-bad (used_of log used) _ 1 _ (not-long most_log (used_of log used) h g) (told-bad order_log k _ e))

-- an answer by what was found
pub got-found : (o : Answered Remembered) → entry_as (Ok o) ≡ answer 0 (wanted_as o)
got-found None = refl
got-found (Some p) = refl

-- an entry in front makes no list where there is none, and leaves one where there is one
pub none-put : {X : Type 0} (x : X) (o : Option (List X)) → is_none o ≡ is_none (put x o)
unfolding put is_none
none-put x none = refl
none-put x (some xs) = refl
