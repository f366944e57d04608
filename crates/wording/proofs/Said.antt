-- What is said at a position under the limit is put whole, and behind it nothing is put.
-- By the two tests; each line is short.
use Prim.Native.Nat.{ℕ, ◌^◌, ◌≤◌, ◌<◌}
use native.Mathlib.Omega.{arith}
use mathlib.Core.Path.{◌≡◌}
use mathlib.Core.List.{List, [], ◌++◌}
use lib.ListN.{length}
use borrow.Author.Tests.{lt-ltb, le-ltb}
use Rattle.definitions.specs.Elements.{elements, cut_short}
use Rattle.definitions.specs.Listing.{decimal, newline, listed}
use Rattle.elements.specs.declared.element.Element.{Element}
use Rattle.wording.specs.Puts.{Put, said}
use Rattle.wording.specs.Lines.{line_of}
use Rattle.wording.proofs.Puts.{at-text, put-none}
use Rattle.wording.proofs.Lines.{number_short, line-short, end_short, cut_short_lem}

-- ---- behind the limit

module _ (d : List ℕ) (k : ℕ) (s : List ℕ) where
  pub put-far : 2 ^ 30 ≤ k → Put d k (said k s) d k
  unfolding said
  put-far h = rw (le-ltb k (2 ^ 30) h) (put-none d k)

  pub put-too-long : k < 2 ^ 30 → 2 ^ 30 ≤ length s → Put d k (said k s) d k
  unfolding said
  put-too-long h l = rw (lt-ltb k (2 ^ 30) h, le-ltb (length s) (2 ^ 30) l) (put-none d k)

-- ---- under it

said_all : (k : ℕ) (s : List ℕ) → k < 2 ^ 30 → length s < 2 ^ 30 → said k s ≡ s
unfolding said
said_all k s h l = rw (lt-ltb k (2 ^ 30) h, lt-ltb (length s) (2 ^ 30) l)

module _ {d : List ℕ} {k : ℕ} {d' : List ℕ} {k' : ℕ} (h : k < 2 ^ 30) where
  pub put-said : {s : List ℕ} → length s < 2 ^ 30 → Put d k s d' k' → Put d k (said k s) d' k'
  put-said {s} l p = rw (said_all k s h l) p

  pub text-said : {s : List ℕ} → length s < 2 ^ 30 → Put d k (said k s) d' k' → Put d k s d' k'
  text-said {s} l p = at-text (said_all k s h l) p

  pub number-said : (n : ℕ) → Put d k (said k (decimal n ++ newline)) d' k' → Put d k (decimal n ++ newline) d' k'
  number-said n p = text-said (omega (arith, number_short n)) p

  pub line-said : (e : Element) → Put d k (said k (line_of e)) d' k' → Put d k (line_of e) d' k'
  line-said e p = text-said (omega (arith, line-short e)) p

  pub end-said : (n : ℕ) → Put d k (said k (listed n (elements []))) d' k' → Put d k (listed n (elements [])) d' k'
  end-said n p = text-said (omega (arith, end_short n)) p

  pub cut-said : (a x m n : ℕ) → Put d k (said k (listed 0 (cut_short a x m n))) d' k' → Put d k (listed 0 (cut_short a x m n)) d' k'
  cut-said a x m n p = text-said (omega (arith, cut_short_lem a x m n)) p
