-- Each method of a program without policies has what is left of its body.
use Rattle.std.proofs.Common.{◌≡◌, ℕ, ◌+◌, Bool, true, false, ◌&&◌, ◌==◌}
use Rattle.std.proofs.Common.{if◌then◌else◌, List, [], ◌∷◌, ◌++◌, Some, map, length}
use Rattle.std.proofs.Common.{drop, option_map, refl, ap, sym, ◌∙◌}
use Rattle.std.specs.Prelude.{IsTrue}
use Rattle.std.specs.List.{range_with_len, AllByRecursion}
use Rattle.std.proofs.lemmas.Bool.{eqb-true, and_parts, or_left, or_right}
use Rattle.par_typed.specs.declared.table.ClassInfo.{ClassInfo}
use Rattle.par_typed.specs.declared.table.MethodInfo.{MethodInfo}
use Rattle.par_typed.specs.declared.table.Table.{Table}
use Rattle.par_typed.specs.Plain.{TSta, Body}
use Rattle.par_typed_laws.specs.Bodied.{Spot, spot_of, methods_from, AreBodiesOf}
use Rattle.par_run_laws.specs.Names.{body_of}
use Rattle.par_erase.specs.Shown.{numbered}
use Rattle.par_erase.specs.Asked.{Locks, either, asks, asked_in}
use Rattle.par_erase.specs.Erased.{erased_sta, handed, classes_bodies, erased_bodies}
use Rattle.par_code_laws.proofs.Stas.{Within}

module _ (t : Table) (asked_for : Locks) where
  -- what is left of a body
  abbrev pub erased_body : Body → Body
  erased_body b = record {
    class = b.class;
    method = b.method;
    body = erased_sta t asked_for b.body;
  }

  -- bodies of the methods of a class from this number on, and others behind them
  record Handed (c i : ℕ) (ms : List MethodInfo) (bs : List Body) (rest : List Spot) : Type 0 where
    left : numbered c i (handed t asked_for ms bs) ++ map erased_body (drop (length ms) bs)
        ≡ map erased_body bs
    behind : map spot_of (drop (length ms) bs) ≡ rest

  hands : (c i : ℕ) (ms : List MethodInfo) (bs : List Body) (rest : List Spot)
      → map spot_of bs
      ≡ map (λ method. (c, method)) (range_with_len i (length ms)) ++ rest
      → Handed c i ms bs rest
  hands c i [] bs rest e = record { left = refl; behind = e }
  hands c i (m ∷ ms) [] rest e = absurd cc
  hands c i (m ∷ ms) (b ∷ bs) rest e =
      let first : spot_of b ≡ (c, i) = cc in
      let behind : map spot_of bs
      ≡ map (λ method. (c, method)) (range_with_len (i + 1) (length ms)) ++ rest = cc in
      let h = hands c (i + 1) ms bs rest behind in
      record {
        left =
            ap (λ (z : Spot).
            record { class = z.0; method = z.1; body = erased_sta t asked_for b.body }
            ∷ (numbered c (i + 1) (handed t asked_for ms bs)
            ++ map erased_body (drop (length ms) bs))) (sym first)
            ∙ ap (λ bs. erased_body b ∷ bs) h.left;
        behind = h.behind;
      }

  all_left : (c : ℕ) (ks : List ClassInfo) (bs : List Body)
      → map spot_of bs ≡ methods_from c ks
      → classes_bodies t asked_for c ks bs ≡ map erased_body bs
  all_left c [] [] e = refl
  all_left c [] (b ∷ bs) e = absurd cc
  all_left c (k ∷ ks) bs e =
      let h = hands c 0 k.methods bs (methods_from (c + 1) ks) e in
      ap (λ rest. numbered c 0 (handed t asked_for k.methods bs) ++ rest)
      (all_left (c + 1) ks (drop (length k.methods) bs) h.behind)
      ∙ h.left

  -- what is left of the body of a method
  body_left : (bs : List Body) (c k : ℕ)
      → body_of (map erased_body bs) c k ≡ option_map (erased_sta t asked_for) (body_of bs c k)
  body_left [] c k = refl
  body_left (b ∷ bs) c k = by_test (b.class == c && b.method == k) (body_left bs c k)
    where
      by_test : (is : Bool)
          → body_of (map erased_body bs) c k ≡ option_map (erased_sta t asked_for) (body_of bs c k)
          → (if is then Some (erased_sta t asked_for b.body) else body_of (map erased_body bs) c k)
          ≡ option_map (erased_sta t asked_for) (if is then Some b.body else body_of bs c k)
      by_test true h = refl
      by_test false h = h

-- the bodies of an erased program
pub bodies_left : (t : Table) (bs : List Body) → AreBodiesOf t bs
    → erased_bodies t bs ≡ map (erased_body t (asked_in bs)) bs
bodies_left t bs e = all_left t (asked_in bs) 0 t.classes bs e

-- what is left of the body of a method
pub same_body : (t : Table) (bs : List Body) → AreBodiesOf t bs → (c k : ℕ)
    → body_of (erased_bodies t bs) c k
    ≡ option_map (erased_sta t (asked_in bs)) (body_of bs c k)
same_body t bs e c k =
    ap (λ bs. body_of bs c k) (bodies_left t bs e) ∙ body_left t (asked_in bs) bs c k

-- the body of a method, one of these, and what holds of all of them
pub record Found (P : Body → Type 0) (bs : List Body) (c k : ℕ) (s : TSta) : Type 0 where
  pub body : Body
  pub holds : P body
  pub class : body.class ≡ c
  pub method : body.method ≡ k
  pub is : body.body ≡ s
  pub within : Within (asks body.body) (asked_in bs)

pub body_found : (P : Body → Type 0) (bs : List Body) → AllByRecursion P bs → (c k : ℕ) (s : TSta)
    → body_of bs c k ≡ Some s → Found P bs c k s
unfolding either
body_found P [] all c k s e = absurd cc
body_found P (b ∷ bs) all c k s e =
    by_test (b.class == c && b.method == k) refl e (λ e. body_found P bs all.1 c k s e)
  where
    first : IsTrue (b.class == c && b.method == k) → b.body ≡ s → Found P (b ∷ bs) c k s
    first h is =
        let both = and_parts (b.class == c) (b.method == k) h in
        record {
          body = b;
          holds = all.0;
          class = eqb-true b.class c both.0;
          method = eqb-true b.method k both.1;
          is = is;
          within = λ l asked. or_left (asks b.body l) (asked_in bs l) asked;
        }

    later : Found P bs c k s → Found P (b ∷ bs) c k s
    later f = record {
      body = f.body;
      holds = f.holds;
      class = f.class;
      method = f.method;
      is = f.is;
      within = λ l asked. or_right (asks b.body l) (asked_in bs l) (f.within l asked);
    }

    by_test : (is : Bool) → (b.class == c && b.method == k) ≡ is
        → (if is then Some b.body else body_of bs c k) ≡ Some s
        → (body_of bs c k ≡ Some s → Found P bs c k s) → Found P (b ∷ bs) c k s
    by_test true h e rest = first h cc
    by_test false h e rest = later (rest e)
