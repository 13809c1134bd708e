-- How bodies are handed out.
use Rattle.std.proofs.Common.{◌≡◌, ℕ, zero, suc, ◌+◌, ◌<◌, ◌≤◌, List, [], ◌∷◌, ◌++◌, length}
use Rattle.std.proofs.Common.{get_or, drop, Bool, true, false, if◌then◌else◌, cond, option_map}
use Rattle.std.proofs.Common.{count_by, map, Option, Some, None, slice_get, refl, ap, sym, ◌∙◌}
use Rattle.std.proofs.Common.{arith}
use Rattle.std.proofs.Common.{append_assoc}
use Rattle.std.proofs.lemmas.List.{drop-drop}
use Rattle.std.proofs.lemmas.List.Sums.{sum_by-cons}
use Rattle.std.proofs.lemmas.Option.{slice_get_within, get_or_from_slice_get, slice_get-map}
use Rattle.par_typed.specs.declared.program.TBody.{TBody}
use Rattle.par_typed.specs.declared.table.ClassInfo.{ClassInfo}
use Rattle.par_typed.specs.declared.table.MethodInfo.{MethodInfo}
use Rattle.par_typed.specs.declared.table.Table.{Table}
use Rattle.par_typed.specs.Plain.{TSta, Body}
use Rattle.par_typed.specs.Shown as typed
use Rattle.par_erase.specs.declared.program.PlainClass.{PlainClass}
use Rattle.par_erase.specs.Shown.{numbered, own_bodies, class_bodies}
use Rattle.par_typed.specs.declared.table.ChannelInfo.{ChannelInfo}
use Rattle.par_erase.specs.Shown.{Name, inputs_of_class}
use Rattle.par_erase.specs.Asked.{Locks}
use Rattle.par_erase.specs.Erased.{nothing, first_body, handed, classes_bodies, erased_sta}
use Rattle.par_erase.specs.Erased.{inputs_among}
use Rattle.par_typed.specs.Members.{channels_in as channels_of}
use Rattle.par_erase.proofs.ExprForms.{left_more, left_none}
use Rattle.par_erase.proofs.StmtForms.{erases}
use Rattle.par_erase.proofs.Copies.{copies, none_behind, more_behind}
use Rattle.std.proofs.lemmas.List.{map-append}

-- the body at a place, or none
pub body_there : (t : Table) (a : Locks) (bs : List TBody) (i : ℕ) (b : TBody)
    → slice_get bs i ≡ Some b
    → first_body t a (typed.bodies (drop i bs)) ≡ erased_sta t a (typed.does b.body)
body_there t a bs i b h =
    ap (λ xs. first_body t a (typed.bodies xs))
    (left_more bs i b (slice_get_within bs i b h) (sym (get_or_from_slice_get bs i b b h)))

pub no_body_there : (t : Table) (a : Locks) (bs : List TBody) (i : ℕ) → length bs ≤ i
    → first_body t a (typed.bodies (drop i bs)) ≡ nothing
no_body_there t a bs i le = ap (λ xs. first_body t a (typed.bodies xs)) (left_none bs i le)

-- bodies that are dropped before or behind they are shown
pub bodies_drop : (n : ℕ) (bs : List TBody) → drop n (typed.bodies bs) ≡ typed.bodies (drop n bs)
bodies_drop zero bs = refl
bodies_drop (suc n) [] = refl
bodies_drop (suc n) (b ∷ bs) = bodies_drop n bs

-- the first of the methods that are left has the first of the bodies that are left
pub handed_left : (t : Table) (a : Locks) (ms : List MethodInfo) (bs : List TBody) (i : ℕ)
    (m : MethodInfo)
    → i < length ms → m ≡ get_or ms i m
    → handed t a (drop i ms) (typed.bodies (drop i bs))
    ≡ first_body t a (typed.bodies (drop i bs))
    ∷ handed t a (drop (i + 1) ms) (typed.bodies (drop (i + 1) bs))
handed_left t a ms bs i m lt is =
    ap (λ ns. handed t a ns (typed.bodies (drop i bs))) (left_more ms i m lt is)
    ∙ ap (λ cs. first_body t a (typed.bodies (drop i bs)) ∷ handed t a (drop (i + 1) ms) cs)
    (bodies_drop 1 (drop i bs) ∙ ap typed.bodies (drop-drop 1 i bs))

-- one body more is handed out
pub handed_step : {X : Type 0} (g : X → TSta) (t : Table) (a : Locks) (ms : List MethodInfo)
    (bs : List TBody)
    (i : ℕ) (m : MethodInfo) (found new : List X) (x : X) → new ≡ found ++ x ∷ []
    → i < length ms → m ≡ get_or ms i m → g x ≡ first_body t a (typed.bodies (drop i bs))
    → map g found ++ handed t a (drop i ms) (typed.bodies (drop i bs))
    ≡ handed t a ms (typed.bodies bs)
    → map g new ++ handed t a (drop (i + 1) ms) (typed.bodies (drop (i + 1) bs))
    ≡ handed t a ms (typed.bodies bs)
handed_step g t a ms bs i m found new x push lt is same h =
    more_behind (map g found) (map g new) (first_body t a (typed.bodies (drop i bs)) ∷ [])
    (handed t a (drop i ms) (typed.bodies (drop i bs)))
    (handed t a (drop (i + 1) ms) (typed.bodies (drop (i + 1) bs)))
    (handed t a ms (typed.bodies bs))
    (handed_left t a ms bs i m lt is)
    (ap (map g) push ∙ map-append g found (x ∷ []) ∙ ap (λ z. map g found ++ z ∷ []) same) h

pub none_handed : (t : Table) (a : Locks) (ms : List MethodInfo) (bs : List Body) (i : ℕ)
    → length ms ≤ i
    → handed t a (drop i ms) bs ≡ []
none_handed t a ms bs i le = ap (λ ns. handed t a ns bs) (left_none ms i le)

-- one more class behind the last
class_bodies_with : (w : ℕ → ℕ) (c : ℕ) (ks : List PlainClass) (k : PlainClass)
    → class_bodies w c (ks ++ k ∷ [])
    ≡ class_bodies w c ks ++ numbered (c + length ks) 0 (own_bodies w k)
class_bodies_with w c [] k =
    let at : c + 0 ≡ c = omega arith in
    none_behind (numbered c 0 (own_bodies w k))
    ∙ ap (λ n. numbered n 0 (own_bodies w k)) (sym at)
class_bodies_with w c (x ∷ ks) k =
    let at : c + 1 + length ks ≡ c + length (x ∷ ks) = omega arith in
    ap (λ ys. numbered c 0 (own_bodies w x) ++ ys) (class_bodies_with w (c + 1) ks k)
    ∙ sym (append_assoc (numbered c 0 (own_bodies w x)) (class_bodies w (c + 1) ks)
    (numbered (c + 1 + length ks) 0 (own_bodies w k)))
    ∙ ap (λ n. (numbered c 0 (own_bodies w x) ++ class_bodies w (c + 1) ks)
    ++ numbered n 0 (own_bodies w k)) at

-- what is found grows by the bodies of a class, which are taken from what is left
pub bodies_step : (t : Table) (a : Locks) (w : ℕ → ℕ) (found : List PlainClass)
    (k : PlainClass) (i : ℕ)
    (classes : List ClassInfo) (class : ClassInfo) (bs all : List Body)
    → length found ≡ i → i < length classes → class ≡ get_or classes i class
    → own_bodies w k ≡ handed t a class.methods bs
    → class_bodies w 0 found ++ classes_bodies t a i (drop i classes) bs ≡ all
    → class_bodies w 0 (found ++ k ∷ [])
    ++ classes_bodies t a (i + 1) (drop (i + 1) classes) (drop (length class.methods) bs) ≡ all
bodies_step t a w found k i classes class bs all count lt is own h =
    let rest = classes_bodies t a (i + 1) (drop (i + 1) classes) (drop (length class.methods) bs) in
    let number : 0 + length found ≡ i = omega arith in
    ap (λ xs. xs ++ rest) (class_bodies_with w 0 found k)
    ∙ append_assoc (class_bodies w 0 found) (numbered (0 + length found) 0 (own_bodies w k)) rest
    ∙ ap (λ n. class_bodies w 0 found ++ (numbered n 0 (own_bodies w k) ++ rest)) number
    ∙ ap (λ ss. class_bodies w 0 found ++ (numbered i 0 ss ++ rest)) own
    ∙ ap (λ cs. class_bodies w 0 found ++ classes_bodies t a i cs bs)
    (sym (left_more classes i class lt is))
    ∙ h

pub no_classes_left : (t : Table) (a : Locks) (classes : List ClassInfo) (bs : List Body) (i : ℕ)
    → length classes ≤ i → classes_bodies t a i (drop i classes) bs ≡ []
no_classes_left t a classes bs i le = ap (λ cs. classes_bodies t a i cs bs) (left_none classes i le)

-- a plain class has as many inputs as its class in the table
pub inputs_counted : (cs : List ChannelInfo)
    → length (inputs_among cs) ≡ count_by (λ channel. channel.is_input) cs
inputs_counted [] = refl
inputs_counted (x ∷ cs) =
    by_case x.is_input (x.name ∷ inputs_among cs) (inputs_among cs) (inputs_counted cs)
    (ap suc (inputs_counted cs))
    ∙ sym (sum_by-cons (λ channel. cond channel.is_input 1 0) x cs)
  where
    by_case : (b : Bool) (more names : List Name) {n : ℕ} → length names ≡ n
        → length more ≡ suc n → length (if b then more else names) ≡ cond b 1 0 + n
    by_case true more names {n} e e' = e' ∙ omega arith
    by_case false more names {n} e e' = e ∙ omega arith

abbrev names_in : Option (List Name) → ℕ
names_in None = 0
names_in (Some names) = length names

pub same_inputs : (ks : List PlainClass) (classes : List ClassInfo)
    → map (λ k. k.inputs) ks ≡ map (λ c. inputs_among c.channels) classes
    → (c : ℕ) → inputs_of_class (slice_get ks c)
    ≡ count_by (λ channel. channel.is_input) (channels_of (slice_get classes c))
same_inputs ks classes is c =
    by_both (slice_get ks c) (slice_get classes c)
    (sym (slice_get-map (λ k. k.inputs) ks c) ∙ ap (λ xs. slice_get xs c) is
    ∙ slice_get-map (λ k. inputs_among k.channels) classes c)
  where
    by_both : (k : Option PlainClass) (class : Option ClassInfo)
        → option_map (λ k. k.inputs) k ≡ option_map (λ c. inputs_among c.channels) class
        → inputs_of_class k ≡ count_by (λ channel. channel.is_input) (channels_of class)
    by_both None None e = refl
    by_both None (Some class) e = absurd (cc e)
    by_both (Some k) None e = absurd (cc e)
    by_both (Some k) (Some class) e =
        ap names_in e ∙ inputs_counted class.channels

pub ruleset hands = (erases, copies, body_there, no_body_there)
