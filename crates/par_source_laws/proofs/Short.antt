-- The names and descriptors in the tree of a source have no more bytes than the source.
use Rattle.std.proofs.Common.{◌≡◌, ℕ, ◌+◌, ◌-◌, ◌≤◌, Bool, true, false, List, [], ◌∷◌, ◌++◌, length}
use Rattle.std.proofs.Common.{Option, Some, None, Ok, Err, refl, sym, subst, if◌then◌else◌, nat_le}
use Rattle.std.proofs.Common.{arith}
use Rattle.par_lexer.specs.declared.token.Kind.{Kind}
use Rattle.par_lexer.specs.declared.token.Kind.TheVariants as kind
use Rattle.par_lexer.specs.declared.token.Token.{Token}
use Rattle.par_names.specs.par_grammar.declared.sort.Sort.{Sort}
use Rattle.par_names.specs.par_grammar.declared.sort.Sort.TheVariants as sort
use Rattle.par_names.specs.par_grammar.Sorts.{sort_of, same}
use Rattle.par_names.specs.par_grammar.Grammar.{token, kept, finish, counts, restarts, enters}
use Rattle.par_names.specs.par_grammar.Grammar.{leaves, name}
use Rattle.par_names.specs.par_grammar.Grammar.{builds, alternative}
use Rattle.par_names.specs.par_grammar.Derivation.{Input, next, Syntax, TooDeep, Outcome, State}
use Rattle.par_names.specs.par_grammar.Derivation.{Step, goes}
use Rattle.par_names.specs.par_grammar.Derivation.{ends, state, stops, takes, keeps, nests}
use Rattle.par_names.specs.par_grammar.Derivation.{replaces, step_by}
use Rattle.par_names.specs.par_grammar.Derivation.{step, Comes, last, more}
use Rattle.par_names.specs.par_tree.Grammar.{Names, Builders, Symbols}
use Rattle.par_names.specs.par_tree.Grammar as g
use Rattle.par_names.specs.par_tree.Values.{Value, Values, tok, paragon}
use Rattle.par_source_laws.specs.Laws.{TreesAreShort}
use Rattle.par_source_laws.proofs.Gaps.{is_wordy, is_name, gap, Behind, within, tokens_behind}
use Rattle.par_source_laws.proofs.Costs.{is_wordy_sort, is_name_sort, needs, alternative_pays}
use Rattle.par_source_laws.proofs.Weights.{weights, Fine, built_pays}

-- what is built and what is to be paid, where the tokens up to this place are taken
record Stands (limit at : ℕ) (wordy : Bool) (s : Symbols) (left : List Token) (vs : Values) : Type 0
  where
    paid : weights vs + needs wordy s ≤ at
    fine : Fine vs
    behind : Behind wordy at limit left

-- ---- sorts

wordy_as : (k : Kind) (s : Sort) → same (sort_of k) s ≡ true → is_wordy k ≡ is_wordy_sort s
wordy_as (kind.Word n) (sort.Word m) is = refl
wordy_as (kind.Word n) sort.Name is = absurd (cc is)
wordy_as (kind.Word n) sort.Number is = absurd (cc is)
wordy_as (kind.Word n) (sort.Sign m) is = absurd (cc is)
wordy_as (kind.Word n) sort.End is = absurd (cc is)
wordy_as (kind.Name x) (sort.Word m) is = absurd (cc is)
wordy_as (kind.Name x) sort.Name is = refl
wordy_as (kind.Name x) sort.Number is = absurd (cc is)
wordy_as (kind.Name x) (sort.Sign m) is = absurd (cc is)
wordy_as (kind.Name x) sort.End is = absurd (cc is)
wordy_as (kind.Number n) (sort.Word m) is = absurd (cc is)
wordy_as (kind.Number n) sort.Name is = absurd (cc is)
wordy_as (kind.Number n) sort.Number is = refl
wordy_as (kind.Number n) (sort.Sign m) is = absurd (cc is)
wordy_as (kind.Number n) sort.End is = absurd (cc is)
wordy_as (kind.Sign n) (sort.Word m) is = absurd (cc is)
wordy_as (kind.Sign n) sort.Name is = absurd (cc is)
wordy_as (kind.Sign n) sort.Number is = absurd (cc is)
wordy_as (kind.Sign n) (sort.Sign m) is = refl
wordy_as (kind.Sign n) sort.End is = absurd (cc is)

named_as : (k : Kind) (s : Sort) → same (sort_of k) s ≡ true → is_name k ≡ is_name_sort s
named_as (kind.Word n) (sort.Word m) is = refl
named_as (kind.Word n) sort.Name is = absurd (cc is)
named_as (kind.Word n) sort.Number is = absurd (cc is)
named_as (kind.Word n) (sort.Sign m) is = absurd (cc is)
named_as (kind.Word n) sort.End is = absurd (cc is)
named_as (kind.Name x) (sort.Word m) is = absurd (cc is)
named_as (kind.Name x) sort.Name is = refl
named_as (kind.Name x) sort.Number is = absurd (cc is)
named_as (kind.Name x) (sort.Sign m) is = absurd (cc is)
named_as (kind.Name x) sort.End is = absurd (cc is)
named_as (kind.Number n) (sort.Word m) is = absurd (cc is)
named_as (kind.Number n) sort.Name is = absurd (cc is)
named_as (kind.Number n) sort.Number is = refl
named_as (kind.Number n) (sort.Sign m) is = absurd (cc is)
named_as (kind.Number n) sort.End is = absurd (cc is)
named_as (kind.Sign n) (sort.Word m) is = absurd (cc is)
named_as (kind.Sign n) sort.Name is = absurd (cc is)
named_as (kind.Sign n) sort.Number is = absurd (cc is)
named_as (kind.Sign n) (sort.Sign m) is = refl
named_as (kind.Sign n) sort.End is = absurd (cc is)

module _ (limit : ℕ) where
  abbrev Built : Outcome Value → Type 0
  Built (Ok built) = weights built.0 ≤ limit
  Built (Err fault) = Unit {0}

  -- it stands so, somewhere
  record Standing (s : Symbols) (left : List Token) (vs : Values) : Type 0 where
    at : ℕ
    wordy : Bool
    stands : Stands limit at wordy s left vs

  abbrev IsKept : Step Names Builders Value → Type 0
  IsKept (goes t) = Standing t.pending t.input.left t.values
  IsKept (ends o) = Built o

  -- ---- steps

  by_test : (b : Bool) (x y : Step Names Builders Value) → (b ≡ true → IsKept x) → IsKept y
      → IsKept (if b then x else y)
  by_test true x y p q = p refl
  by_test false x y p q = q

  -- where no token is taken
  rests : (at : ℕ) (wordy : Bool) (s r : Symbols) (left : List Token) (vs : Values)
      → needs wordy r ≤ needs wordy s → Stands limit at wordy s left vs → Standing r left vs
  rests at wordy s r left vs less h = record {
    at = at;
    wordy = wordy;
    stands = record { paid = omega (arith, less, h.paid); fine = h.fine; behind = h.behind };
  }

  takes_kept : (at : ℕ) (wordy : Bool) (k : Sort) (s : Symbols) (i : Input) (vs : Values)
      (ts : List Token) → same (next (record i { left = ts })) k ≡ true
      → Stands limit at wordy (token k ∷ s) ts vs → IsKept (takes s i vs ts)
  takes_kept at wordy k s i vs [] is h = tt
  takes_kept at wordy k s i vs (x ∷ ts) is h =
      let own = h.behind in
      let paid : weights vs + needs (is_wordy_sort k) s ≤ x.to =
      omega (arith, h.paid, own.0, own.1.0) in
      record {
        at = x.to;
        wordy = is_wordy x.kind;
        stands = record {
          paid =
              subst (λ b. weights vs + needs b s ≤ x.to) (sym (wordy_as x.kind k is)) paid;
          fine = h.fine;
          behind = own.2;
        };
      }

  keeps_kept : (at : ℕ) (wordy : Bool) (k : Sort) (s : Symbols) (i : Input) (vs : Values)
      (ts : List Token) → same (next (record i { left = ts })) k ≡ true
      → Stands limit at wordy (kept k ∷ s) ts vs → IsKept (keeps tok s i vs ts)
  keeps_kept at wordy k s i vs [] is h = tt
  keeps_kept at wordy k s i vs (x ∷ ts) is h =
      let own = h.behind in
      let apart : at + gap wordy (is_name_sort k) ≤ x.from =
      subst (λ b. at + gap wordy b ≤ x.from) (named_as x.kind k is) own.0 in
      let paid : x.to - x.from + weights vs + needs (is_wordy_sort k) s ≤ x.to =
      omega (arith, h.paid, apart, own.1.0) in
      record {
        at = x.to;
        wordy = is_wordy x.kind;
        stands = record {
          paid =
              subst (λ b. x.to - x.from + weights vs + needs b s ≤ x.to)
              (sym (wordy_as x.kind k is)) paid;
          fine = (own.1, h.fine);
          behind = own.2;
        };
      }

  nests_kept : (s : Symbols) (i : Input) (vs : Values) (ts : List Token) → Standing s i.left vs
      → IsKept (nests s i vs ts)
  nests_kept s i vs [] h = tt
  nests_kept s i vs (x ∷ ts) h =
      by_test (nat_le (i.blocks + i.counted) 64) (goes (state s i vs)) (stops (TooDeep i.at))
      (λ is. h) tt

  replaces_kept : (a : Option Symbols) (s : Symbols) (i : Input) (vs : Values)
      → ((xs : Symbols) → a ≡ Some xs → Standing (xs ++ s) i.left vs) → IsKept (replaces a s i vs)
  replaces_kept None s i vs f = tt
  replaces_kept (Some xs) s i vs f = f xs refl

  step_kept : (at : ℕ) (wordy : Bool) (p : Symbols) (i : Input) (vs : Values)
      → Stands limit at wordy p i.left vs → IsKept (step_by paragon p i vs)
  step_kept at wordy [] i vs h =
      let end = within wordy at limit i.left h.behind in omega (arith, end, h.paid)
  step_kept at wordy (token k ∷ s) i vs h =
      by_test (same (next i) k) (takes s i vs i.left) (stops (Syntax i.at))
      (λ is. takes_kept at wordy k s i vs i.left is h) tt
  step_kept at wordy (kept k ∷ s) i vs h =
      by_test (same (next i) k) (keeps tok s i vs i.left) (stops (Syntax i.at))
      (λ is. keeps_kept at wordy k s i vs i.left is h) tt
  step_kept at wordy (finish ∷ s) i vs h =
      by_test (same (next i) sort.End) (goes (state s i vs)) (stops (Syntax i.at))
      (λ is. rests at wordy (finish ∷ s) s i.left vs (omega arith) h) tt
  step_kept at wordy (counts ∷ s) i vs h =
      nests_kept s (record i { counted = i.counted + 1 }) vs i.left
      (rests at wordy (counts ∷ s) s i.left vs (omega arith) h)
  step_kept at wordy (restarts ∷ s) i vs h =
      rests at wordy (restarts ∷ s) s i.left vs (omega arith) h
  step_kept at wordy (enters ∷ s) i vs h =
      nests_kept s (record i { blocks = i.blocks + 1 }) vs i.left
      (rests at wordy (enters ∷ s) s i.left vs (omega arith) h)
  step_kept at wordy (leaves ∷ s) i vs h =
      rests at wordy (leaves ∷ s) s i.left vs (omega arith) h
  step_kept at wordy (name n ∷ s) i vs h =
      replaces_kept (alternative paragon n (next i)) s i vs
      (λ xs is. rests at wordy (name n ∷ s) (xs ++ s) i.left vs
      (alternative_pays n (next i) xs s wordy is) h)
  step_kept at wordy (builds b ∷ s) i vs h =
      let made = built_pays b vs h.fine in
      record {
        at = at;
        wordy = wordy;
        stands = record {
          paid = omega (arith, made.0, h.paid);
          fine = made.1;
          behind = h.behind;
        };
      }

  -- by the steps of the derivation
  comes_built : {s : State Names Builders Value} {o : Outcome Value} → Comes paragon s o
      → Standing s.pending s.input.left s.values → Built o
  unfolding step
  comes_built {s = s} (last e) h =
      subst IsKept e (step_kept h.at h.wordy s.pending s.input s.values h.stands)
  comes_built {s = s} (more t e rest) h =
      comes_built rest (subst IsKept e (step_kept h.at h.wordy s.pending s.input s.values h.stands))

pub trees_are_short : TreesAreShort
trees_are_short bytes tokens tree has comes =
    let start : Standing (length bytes) (name g.Program ∷ []) tokens [] = record {
      at = 0;
      wordy = false;
      stands = record {
        paid = omega arith;
        fine = tt;
        behind = tokens_behind bytes tokens has;
      };
    } in
    let built = comes_built (length bytes) comes.1 start in
    omega (arith, built)
