-- The loops over the elements of a part by a table: what is left of the part gives what the whole part gives.
-- A step of the code is the definition's step, since the table passes its check and the part is within the limit.
use Prim.Native.Nat.{ℕ, ◌+◌, ◌*◌, ◌≤◌, ◌<◌}
use native.Mathlib.Omega.{arith}
use mathlib.Core.Path.{◌≡◌, refl, ap, sym, ◌∙◌}
use mathlib.Core.List.{List, [], ◌++◌}
use mathlib.Core.Bool.{Bool, true}
use mathlib.Core.Option.{Option, none, some}
use lib.ListN.{length}
use borrow.Author.Tests.{lt-ltb, le-ltb}
use Rattle.std.specs.Prelude.{Option as Answered, Some, None, Result, Ok, Err, IsOk, is_err}
use Rattle.std.specs.Result.{result_unwrap_or}
use Rattle.definitions.specs.Rows.{rows_of}
use Rattle.definitions.specs.Tables.{table_of, start_of}
use Rattle.definitions.specs.Elements.{Element as DefElement, Parted, elements, cut_short, elements_of, before}
use Rattle.definitions.specs.Listing.{ascii, heading, newline, lines, listed, listing_by}
use Rattle.elements.specs.Nexts.{start_state, Next, next_of}
use Rattle.elements.specs.declared.element.State.{State}
use Rattle.elements.specs.declared.element.Element.{Element}
use Rattle.elements.specs.declared.element.Cut.{Cut}
use Rattle.elements.proofs.Nexts.{from, Nexts, from_start, cuts, ends}
use Rattle.elements.proofs.Walks.{back, next-step, Behind, behind, none_left, never-cut}
use Rattle.wording.specs.Puts.{Put}
use Rattle.wording.specs.Lines.{line_of}
use Rattle.elements.specs.Steps.{cut_of}
use Rattle.listing.specs.Parts.{Passing, step_at, parted_by, whole_of, listing_of, is_refused, is_refused_of}
use Rattle.wording.proofs.Puts.{joined, at-text, put-none, put-long}
use Rattle.wording.proofs.Lines.{line-is, line-short}

-- ---- a step

pub stepped : (table : List ℕ) (option : Bool) (part : List ℕ) (s : State) → Passing table part → {n : Next} → n ≡ next_of (rows_of table) start_of option part s → back n ≡ step_at table option part s
stepped table option part s h e = next-step (rows_of table) start_of option part s h.passes (omega (arith, h.short)) e

-- the element that `unwrap_or` gives
pub some-step : (o : Result (Answered (Element × State)) Cut) {x : Element × State} → Some x ≡ result_unwrap_or o None → Ok (Some x) ≡ o
some-step (Ok y) h = ap Ok h
some-step (Err c) h = cc

-- ---- by table number

pub listing-of : (number : ℕ) (option : Bool) (part : List ℕ) {o : Option (List ℕ)} → table_of number ≡ o
    → listing_of number option part ≡ elim o [ none ↦ [] | some table ↦ listing_by table option part ]
unfolding listing_of
listing-of number option part e = ap (λ (o : Option (List ℕ)). elim o [ none ↦ [] | some table ↦ listing_by table option part ]) e

pub refused-of : (number : ℕ) (option : Bool) (part : List ℕ) {o : Option (List ℕ)} → table_of number ≡ o
    → is_refused_of number option part ≡ elim o [ none ↦ true | some table ↦ is_refused table option part ]
unfolding is_refused_of
refused-of number option part e = ap (λ (o : Option (List ℕ)). elim o [ none ↦ true | some table ↦ is_refused table option part ]) e

-- ---- a part that is read whole

pub whole-elements : (p : Parted) → IsOk (whole_of p) → p ≡ elements (elements_of p)
unfolding elements_of
whole-elements (elements es) h = refl
whole-elements (cut_short a x n m) h = cc

module _ (table : List ℕ) (option : Bool) (part : List ℕ) where
  abbrev pub left : State → Parted
  left s = from (rows_of table) start_of option part s

  abbrev pub Found : State → Element → State → Type 0
  Found s e v = Nexts (rows_of table) start_of option part s e v

  pub left-start : left start_state ≡ parted_by table option part
  left-start = from_start (rows_of table) start_of option part

  -- of a part that is read whole, `unwrap_or` gives none at the end alone
  pub none-step : (s : State) {rest : List DefElement} → left s ≡ elements rest → s.at ≤ length part → (o : Result (Answered (Element × State)) Cut) → o ≡ step_at table option part s → None ≡ result_unwrap_or o None → left s ≡ elements []
  none-step s r w (Ok y) e h = ends (rows_of table) start_of option part s w (ap Ok h ∙ e)
  none-step s r w (Err c) e h = absurd (never-cut r (cuts (rows_of table) start_of option part s w e))

  -- ---- whether it is cut short

  whole_before : (d : DefElement) (p : Parted) → whole_of (before d p) ≡ whole_of p
  unfolding before
  whole_before d (elements es) = refl
  whole_before d (cut_short a x n m) = refl

  pub record Seeking (s : State) : Type 0 where
    pub within : s.at ≤ length part
    pub tells : whole_of (left s) ≡ whole_of (parted_by table option part)

  pub sought-start : (s : State) → s ≡ start_state → Seeking s
  sought-start s e = rw e (record { within = omega arith; tells = ap whole_of left-start })

  pub sought : {s v : State} {e : Element} → Seeking s → Found s e v → Seeking v
  sought {v = v} i n =
      record {
        within = omega (arith, n.further, n.within);
        tells = sym (ap whole_of n.parts ∙ whole_before n.element (left v)) ∙ i.tells;
      }

  -- ---- the lines

  module _ (out₀ : List ℕ) (first : ℕ) where
    abbrev all : List ℕ
    all = lines (elements_of (parted_by table option part))

    pub record Writing (s : State) (out : List ℕ) (used : ℕ) : Type 0 where
      pub rest : List DefElement
      pub reads : left s ≡ elements rest
      pub within : s.at ≤ length part
      pub long : length out ≡ length out₀
      pub bound : used ≤ first + 25 * s.at
      pub ends : (d : List ℕ) (k : ℕ) → Put out used (lines rest) d k → Put out₀ first all d k

    pub written_start : (s : State) → s ≡ start_state → IsOk (whole_of (parted_by table option part)) → Writing s out₀ first
    written_start s e h =
        rw e (record {
          rest = elements_of (parted_by table option part);
          reads = left-start ∙ whole-elements (parted_by table option part) h;
          within = omega arith;
          long = refl;
          bound = omega arith;
          ends = λ d k p. p;
        })

    module _ (s v : State) (e : Element) (out : List ℕ) (used : ℕ) (out' : List ℕ) (used' : ℕ) (i : Writing s out used) (n : Found s e v) (p : Put out used (line_of e) out' used') where
      pub written : Writing v out' used'
      unfolding lines
      written =
          let b : Behind (rows_of table) start_of option part n.element v i.rest = behind (rows_of table) start_of option part i.reads n in
          let g : line_of e ++ lines b.more ≡ lines i.rest =
          ap (λ (x : List ℕ). x ++ lines b.more) (ap line_of n.is ∙ line-is n.element) ∙ ap lines b.is in
          record {
            rest = b.more;
            reads = b.reads;
            within = omega (arith, n.further, n.within);
            long = put-long p ∙ i.long;
            bound = omega (arith, i.bound, p.used, line-short e, n.further, n.some-octet);
            ends = λ d k r. i.ends d k (at-text g (joined p r));
          }

    pub written_all : {s : State} {out : List ℕ} {used : ℕ} → Writing s out used → left s ≡ elements [] → Put out₀ first all out used
    unfolding lines
    written_all {out = out} {used = used} i e = i.ends out used (at-text (ap lines (sym (none_left i.reads e))) (put-none out used))

  -- ---- the text

  pub listing-long : 4096 < length part → heading ++ (ascii "too long" ++ newline) ≡ listing_by table option part
  unfolding listing_by
  listing-long l = rw (lt-ltb 4096 (length part) l)

  listing-read : length part ≤ 4096 → heading ++ listed (length part) (parted_by table option part) ≡ listing_by table option part
  unfolding listing_by
  listing-read l = rw (le-ltb 4096 (length part) l)

  pub listing-cut : {c : Cut} → length part ≤ 4096 → Err c ≡ whole_of (parted_by table option part) → heading ++ listed 0 (cut_short c.start c.first c.left c.missing) ≡ listing_by table option part
  unfolding listed
  listing-cut {c} l h = by (parted_by table option part) refl h
    where
      by : (p : Parted) → parted_by table option part ≡ p → Err c ≡ whole_of p → heading ++ listed 0 (cut_short c.start c.first c.left c.missing) ≡ listing_by table option part
      by (elements es) e q = cc
      by (cut_short b y n s) e q =
          let i : c ≡ cut_of b y n s = cc in
          rw i (ap (λ (p : Parted). heading ++ listed (length part) p) (sym e) ∙ listing-read l)

  pub listing-lines : length part ≤ 4096 → IsOk (whole_of (parted_by table option part)) → heading ++ (lines (elements_of (parted_by table option part)) ++ listed (length part) (elements [])) ≡ listing_by table option part
  unfolding listed lines
  listing-lines l h =
      let e = whole-elements (parted_by table option part) h in
      ap (λ (p : Parted). heading ++ listed (length part) p) (sym e) ∙ listing-read l

  -- ---- whether it is refused

  pub refused-long : 4096 < length part → true ≡ is_refused table option part
  refused-long l = rw (lt-ltb 4096 (length part) l)

  pub refused-read : {w : Result Unit Cut} → length part ≤ 4096 → w ≡ whole_of (parted_by table option part) → is_err w ≡ is_refused table option part
  refused-read l e = rw (le-ltb 4096 (length part) l) (ap is_err e)
