-- What a push says and leaves, by each of document 01's checks in their order.
-- Whether the used octets list entries decides 11; the numbers compared are those that code measures.
use Prim.Native.Nat.{ℕ, ◌+◌, ◌≤◌, ◌<◌}
use mathlib.Core.Bool.{true, false}
use mathlib.Core.List.{List, [], ◌∷◌}
use mathlib.Core.Path.{◌≡◌, refl}
use lib.ListN.{length, take}
use Rattle.definitions.specs.Basic.{is_none, Answer, answer, content, too_long, most_log, over_at}
use Rattle.definitions.specs.Logs.{Placed, order_entry, order_list, order_push}
use Rattle.definitions.proofs.LogWalks.{push-used, push-over, push-bad, push-full, push-done}
use Rattle.kept.specs.Kept.{used_of}

module _ (log : List ℕ) (used : ℕ) (p : Placed) where
  abbrev pub Leaves : Answer → List ℕ → Type 0
  Leaves a l = (a ≡ (order_push (used_of log used) p).said) × (l ≡ (order_push (used_of log used) p).log)

  pub leaves-used : too_long most_log (used_of log used) ≡ true → Leaves (answer 3 []) log
  unfolding order_push
  leaves-used h = push-used _ _ _ _ 1 3 h

  -- so many octets for the entry
  module _ {n : ℕ} (e : n ≡ length (order_entry p)) where
    pub leaves-over : 131070 < used + n → Leaves (answer 3 []) log
    unfolding order_push
    leaves-over h = push-over _ _ _ _ 1 3 _ e h

    module _ (h : used ≤ length log) (g : used + n ≤ 131070) where
      pub leaves-bad : is_none (order_list (take used log)) ≡ true → Leaves (answer 11 (1 ∷ [])) log
      unfolding order_push content
      leaves-bad t = push-bad _ _ _ _ 1 3 _ e h refl g t

      module _ (t : is_none (order_list (take used log)) ≡ false) where
        pub leaves-full : length log < used + n → Leaves (answer 2 (3 ∷ [])) log
        unfolding order_push content
        leaves-full f = push-full _ _ _ _ 1 3 _ e h refl g t f

        pub leaves-done : used + n ≤ length log → Leaves (answer 0 ((used + n) ∷ [])) (over_at used (order_entry p) log)
        unfolding order_push content
        leaves-done f = push-done _ _ _ _ 1 3 _ e h refl g t f
