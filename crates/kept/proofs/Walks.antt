-- A walk over a kept log, as the walk over either log: a place stands for what is found.
-- An entry takes its count, in shortest form, and its element.
use Prim.Native.Nat.{ℕ, ◌+◌, ◌<◌}
use native.Mathlib.Omega.{arith}
use mathlib.Core.Path.{◌≡◌, refl, ap, ◌∙◌}
use mathlib.Core.List.{List}
use mathlib.Core.Bool.{Bool, true, false}
use mathlib.Core.Option.{Option, none, some}
use lib.ListN.{length, take, drop, length-take, length-drop}
use lib.Dec.{eqb}
use Rattle.std.specs.Prelude.{Some, None}
use Rattle.definitions.specs.Basic.{pick}
use Rattle.definitions.specs.Logs.{leb128, Count, count_at, kept_list}
use Rattle.definitions.proofs.Logs.{entry_of, entry-at-fits, entry_length}
use Rattle.definitions.proofs.LogSteps.{kept-split, kept-stop}
use Rattle.definitions.proofs.LogWalks.{kept_here, kept_log, Walking, stepped, stopped}
use Rattle.kept.specs.Kept.{passed, step_of, found_by, tell, start_walk}
use Rattle.kept.specs.declared.Walk.{Walk}

abbrev pub WalkAt : List ℕ → ℕ → Walk → Type 0
WalkAt content want w = Walking kept_log want content w.at w.count (found_by w.wanted)

module _ (content : List ℕ) (want : ℕ) (w : Walk) (i : WalkAt content want w) (inside : w.at < length content) where
  abbrev s : List ℕ
  s = drop w.at content

  passed_on : (c : Count) → entry_of s (count_at s) ≡ some c → WalkAt content want (passed w want c) × (w.at < (passed w want c).at)
  unfolding passed
  passed_on c e =
      let k = kept-split content w.at (omega arith) e in
      let size = entry_length element in
      let further : w.at < w.at + c.took + c.value = omega (arith, k.count) in
      (stepped kept_log want content i element further (omega (arith, k.within)) (omega (arith, long, digits)) refl (found (eqb w.count want)) k.splits, further)
    where
      element : List ℕ
      element = take c.value (drop (w.at + c.took) content)

      long : length element ≡ c.value
      long = simp (length-take, length-drop) (omega (arith, (kept-split content w.at (omega arith) e).within))

      digits : length (leb128 (length element)) ≡ c.took
      digits = ap (λ (n : ℕ). length (leb128 n)) long ∙ (entry-at-fits s e).3

      found : (b : Bool) → found_by (pick b (Some (record { start = w.at + c.took; len = c.value })) w.wanted) ≡ pick b (kept_here w.at element) (found_by w.wanted)
      found true = rw (digits, long)
      found false = refl

  pub stepped-on : (v : Walk) → Some v ≡ step_of w want (entry_of s (count_at s)) → WalkAt content want v × (w.at < v.at)
  stepped-on v e = of (entry_of s (count_at s)) refl e
    where
      of : (o : Option Count) → entry_of s (count_at s) ≡ o → Some v ≡ step_of w want o → WalkAt content want v × (w.at < v.at)
      of none q f = cc
      of (some c) q f = let p : v ≡ passed w want c = cc in rw p (passed_on c q)

  pub stopped-at : None ≡ step_of w want (entry_of s (count_at s)) → none ≡ tell start_walk want (kept_list content)
  stopped-at e = of (entry_of s (count_at s)) refl e
    where
      of : (o : Option Count) → entry_of s (count_at s) ≡ o → None ≡ step_of w want o → none ≡ tell start_walk want (kept_list content)
      of none q f = stopped kept_log want content i (kept-stop content w.at inside q)
      of (some c) q f = cc
