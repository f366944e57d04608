-- What a push says and leaves, by each of document 01's checks in their order.
-- What the walk over the used octets told decides 11; the numbers compared are those that code measures.
use Prim.Native.Nat.{ℕ, ◌+◌, ◌≤◌, ◌<◌}
use mathlib.Core.Bool.{true}
use mathlib.Core.List.{List, [], ◌∷◌}
use mathlib.Core.Option.{none, some}
use mathlib.Core.Path.{◌≡◌}
use lib.ListN.{length, take}
use Rattle.definitions.specs.Basic.{Answer, answer, content, too_long, most_log, over_at}
use Rattle.definitions.specs.Logs.{leb128, kept_entry, kept_list, kept_push}
use Rattle.definitions.proofs.LogWalks.{kept_log, told-bad, told-log, push-used, push-large, push-over, push-bad, push-full, push-done}
use Rattle.kept.specs.Kept.{used_of, tell, start_walk}
use Rattle.kept.proofs.Entries.{needed, large, not-large}

module _ (log : List ℕ) (used iei : ℕ) (octets : List ℕ) where
  abbrev pub Leaves : Answer → List ℕ → Type 0
  Leaves a l = (a ≡ (kept_push (used_of log used) iei octets).said) × (l ≡ (kept_push (used_of log used) iei octets).log)

  pub leaves-used : too_long most_log (used_of log used) ≡ true → Leaves (answer 3 []) log
  unfolding kept_push
  leaves-used h = push-used _ _ _ _ 2 2 h

  pub leaves-large : 65535 ≤ length octets → Leaves (answer 3 []) log
  unfolding kept_push
  leaves-large h = push-large _ _ _ _ 2 2 (large iei octets h)

  module _ {k : ℕ} (e : k ≡ length (leb128 (length octets + 1))) where
    pub leaves-over : 131070 < used + (k + (length octets + 1)) → Leaves (answer 3 []) log
    unfolding kept_push
    leaves-over h = push-over _ _ _ _ 2 2 _ (needed iei octets e) h

    module _ (h : used ≤ length log) (s : length octets < 65535) (g : used + (k + (length octets + 1)) ≤ 131070) where
      pub leaves-bad : none ≡ tell start_walk 0 (kept_list (take used log)) → Leaves (answer 11 (2 ∷ [])) log
      unfolding kept_push content
      leaves-bad t = push-bad _ _ _ _ 2 2 _ (needed iei octets e) h (not-large iei octets s) g (told-bad kept_log 0 _ t)

      module _ {r : List ℕ} (t : some r ≡ tell start_walk 0 (kept_list (take used log))) where
        pub leaves-full : length log < used + (k + (length octets + 1)) → Leaves (answer 2 (2 ∷ [])) log
        unfolding kept_push content
        leaves-full f = push-full _ _ _ _ 2 2 _ (needed iei octets e) h (not-large iei octets s) g (told-log kept_log 0 _ t).good f

        pub leaves-done : used + (k + (length octets + 1)) ≤ length log
            → Leaves (answer 0 ((used + (k + (length octets + 1))) ∷ [])) (over_at used (kept_entry (iei ∷ octets)) log)
        unfolding kept_push content
        leaves-done f = push-done _ _ _ _ 2 2 _ (needed iei octets e) h (not-large iei octets s) g (told-log kept_log 0 _ t).good f
