-- What an audit asks of an accepted source: there are few actors and classes, and releases lie
-- where the source has places; and what its lines are worth.
use Rattle.std.proofs.Common.{◌≡◌, ℕ, ◌≤◌, List, [], ◌∷◌, ◌++◌, length, map, Contains, refl, sym}
use Rattle.std.proofs.Common.{subst, ap, ◌∙◌, arith, true, false, Bool, cond}
use Rattle.std.specs.List.{AllByRecursion, filter}
use Rattle.std.specs.List.Sorted.{IsPermutation}
use Rattle.std.proofs.lemmas.List.{length-map}
use Rattle.std.proofs.lemmas.List.Elements.{recursion_from_All, All-from_recursion}
use Rattle.std.proofs.lemmas.List.Sorted.{All-permutation, length_permutation}
use Rattle.par_policy.proofs.Ordered.{Contains-first, Contains-later}
use Rattle.par_lexer.specs.declared.token.Token.{Token}
use Rattle.par_lexer.specs.Spans.{Stands}
use Rattle.par_lexer.proofs.Laying.{laid}
use Rattle.par_span_laws.specs.Law.{BeginWithin}
use Rattle.par_span_laws.specs.Within.{IsWithin}
use Rattle.par_span_laws.proofs.Trees.{trees_lie}
use Rattle.par_typed.specs.declared.table.Table.{Table}
use Rattle.par_typed.specs.declared.program.Typed.{Typed}
use Rattle.par_typed.specs.Plain.{Body}
use Rattle.par_typed.specs.Shown.{bodies}
use Rattle.par_resolved.specs.Resolved.{table_of}
use Rattle.par_resolved.specs.Numbers.{Numbers}
use Rattle.par_resolved.specs.Policies.{nothing_known}
use Rattle.par_audit.proofs.par_typed_laws.Entries.{numbers_stay}
use Rattle.par_names.specs.Declarations.{actors, policies}
use Rattle.par_observer.specs.par_typing.Typed.{written}
use Rattle.par_observer.proofs.SpanLaw.{checks_lie}
use Rattle.par_program_laws.specs.Lattice.{numbers}
use Rattle.par_program_laws.specs.Facts.{Facts}
use Rattle.par_check_laws.specs.Asked.{Check}
use Rattle.par_check_laws.specs.Checks.{checks}
use Rattle.par_check_laws.specs.Accepted.{IsAcceptedBy}
use Rattle.par_secrecy.proofs.Carried.{shown_files_are_secure}
use Rattle.par_secrecy.specs.Secure.{Secure}
use Rattle.par_alike.specs.Subject.{subject}
use Rattle.par_observer.specs.Trees.{IsWellFormed, bodies_of}
use Rattle.par_observer.specs.Judgements.{IsAcceptedAs, IsTreeOf}
use Rattle.par_audit.specs.declared.release.Release.{Release}
use Rattle.par_audit.specs.Release.{AreReleases, all_releases, releases, is_release, as_release}
use Rattle.par_audit.proofs.Releases.{no_release_secure}
use Rattle.par_audit.proofs.Files.{files_for}
use Rattle.par_tool.specs.Outside.{Text}
use Rattle.par_tool.specs.Audits.{IsSecureFor}
use Rattle.par_tool.proofs.Within.{within_limits, most_classes}

-- tokens that stand in a source begin in it
begin : (source : Text) (tokens : List Token) → AllByRecursion (Stands source) tokens
    → BeginWithin (length source) tokens
begin source [] h = tt
begin source (t ∷ ts) h = (
  let own : Stands source t = h.0 in omega (arith, own.starts, own.ends),
  begin source ts h.1,
)

module _ (source : Text) (typed : Typed) (is : IsAcceptedAs source typed) where
  pub few_actors : length typed.table.actors ≤ 256
  few_actors =
      let few : length (actors is.tree) ≤ 16 = (within_limits source typed is).few.few_actors in
      let named : length (table_of is.tree).actors ≡ length (actors is.tree) =
      ap (λ (n : Numbers). length n.actors)
      (numbers_stay (nothing_known is.tree) (policies is.tree))
      ∙ length-map (actors is.tree) (λ a. a.name) in
      subst (λ (t : Table). length t.actors ≤ 256) (sym is.keeps.1.table_is)
      (omega (arith, few, named))

  pub few_classes : length typed.table.classes ≤ 65536
  few_classes = let few = most_classes source typed is in omega (arith, few)

  lies : IsWithin (length source) is.tree
  lies =
      let tree : IsTreeOf source is.tree = is.is_tree in
      trees_lie (length source) tree.tokens is.tree
      (begin source tree.tokens
      (recursion_from_All (Stands source) tree.tokens (laid source tree.tokens tree.cut).stand))
      tree.derived

-- ---- releases are at places of checks

joined : (P : Release → Type 0) (xs ys : List Release) → AllByRecursion P xs → AllByRecursion P ys
    → AllByRecursion P (xs ++ ys)
joined P [] ys hs ks = ks
joined P (x ∷ xs) ys hs ks = (hs.0, joined P xs ys hs.1 ks)

module _ (m : ℕ) (table : Table) (actor : ℕ) where
  abbrev Lies : Release → Type 0
  Lies r = r.at ≤ m

  listed : (c : Check) (cs : List Check) (passes : Bool) → c.at ≤ m
      → AllByRecursion Lies (map as_release cs)
      → AllByRecursion Lies (map as_release (cond passes (c ∷ cs) cs))
  listed c cs true own h = (own, h)
  listed c cs false own h = h

  checks_in : (test : Check → Bool) (cs : List Check)
      → ((c : Check) → Contains cs c → c.at ≤ m)
      → AllByRecursion Lies (map as_release (filter test cs))
  checks_in test [] h = tt
  checks_in test (c ∷ cs) h =
      listed c (filter test cs) (test c) (h c (Contains-first c cs))
      (checks_in test cs (λ d there. h d (Contains-later c cs d there)))

  bodies_in : (bs : List Body) (fs : List (Facts numbers))
      → ((b : Body) → Contains bs b → (c : Check) → Contains (checks table b) c → c.at ≤ m)
      → AllByRecursion Lies (all_releases table actor bs fs)
  bodies_in [] fs h = tt
  bodies_in (b ∷ bs) [] h = tt
  bodies_in (b ∷ bs) (f ∷ fs) h =
      joined Lies (releases table actor f (checks table b)) (all_releases table actor bs fs)
      (checks_in (λ c. is_release table actor f c.condition) (checks table b)
      (h b (Contains-first b bs)))
      (bodies_in bs fs (λ d there. h d (Contains-later b bs d there)))

module _ (source : Text) (typed : Typed) (is : IsAcceptedAs source typed) (actor : ℕ)
    (fs : List (Facts numbers)) where
  all_within : AllByRecursion (Lies (length source) typed.table actor)
      (all_releases typed.table actor (bodies typed.bodies) fs)
  all_within =
      let m = length source in
      let own : AllByRecursion (λ (r : Release). r.at ≤ m)
      (all_releases (table_of is.tree) actor (bodies_of is.tree) fs) =
      bodies_in m (table_of is.tree) actor (bodies_of is.tree) fs
      (checks_lie m (written is.tree) is.tree (lies source typed is)) in
      subst (λ (t : Table). AllByRecursion (λ (r : Release). r.at ≤ m)
      (all_releases t actor (bodies typed.bodies) fs)) (sym is.keeps.1.table_is)
      (subst (λ (bs : List Body). AllByRecursion (λ (r : Release). r.at ≤ m)
      (all_releases (table_of is.tree) actor bs fs)) (sym is.keeps.1.bodies_are) own)

  -- the releases of a source are at places of it
  pub releases_within : (found : List Release)
      → AreReleases (all_releases typed.table actor (bodies typed.bodies) fs) found
      → AllByRecursion (λ r. r.at ≤ length source) found
  releases_within found are =
      recursion_from_All (λ (r : Release). r.at ≤ length source) found
      (All-permutation (λ (r : Release). r.at ≤ length source) _ found are.same
      (All-from_recursion (λ (r : Release). r.at ≤ length source) _ all_within))

-- ---- where no release is found

none_at_all : (all : List Release) → IsPermutation all [] → all ≡ []
none_at_all [] h = refl
none_at_all (r ∷ rs) h = let same = length_permutation (r ∷ rs) [] h in absurd (omega (arith, same))

pub secure_for : (typed : Typed) (fs : List (Facts numbers)) (actor : ℕ) (found : List Release)
    → Secure (subject typed) → IsWellFormed typed → IsAcceptedBy typed fs
    → AreReleases (all_releases typed.table actor (bodies typed.bodies) fs) found
    → found ≡ [] → IsSecureFor (subject typed) actor
secure_for typed fs actor found secure well kept are none =
    let all = all_releases typed.table actor (bodies typed.bodies) fs in
    let nothing : all ≡ [] = none_at_all all (subst (IsPermutation all) none are.same) in
    let own = no_release_secure typed fs actor well.typed_well well.declared_well well.written kept
    nothing in
    record {
      program = own;
      files = λ target shows. files_for target (subject typed) actor shows
          (shown_files_are_secure target (subject typed) shows secure) own;
    }
