-- Copies of names are names.
use Rattle.std.proofs.Common.{◌≡◌, Bool, true, false, List, [], ◌∷◌, ◌++◌, map, ap, sym, ◌∙◌, subst}
use Rattle.std.specs.List.{AllByRecursion}
use Rattle.std.proofs.lemmas.List.{map-append}
use Rattle.par_base.specs.Names.{IsName}
use Rattle.par_erase.specs.Shown.{Name, channel_info}

all_behind : {X : Type 0} (P : X → Type 0) (xs ys : List X) → AllByRecursion P xs
    → AllByRecursion P ys → AllByRecursion P (xs ++ ys)
all_behind P [] ys h k = k
all_behind P (x ∷ xs) ys h k = (h.0, all_behind P xs ys h.1 k)

-- one more behind the last
pub named_step : {X Z : Type 0} (f : X → Z) (P : Z → Type 0) (found new : List X) (x : X)
    → new ≡ found ++ x ∷ [] → P (f x) → AllByRecursion P (map f found)
    → AllByRecursion P (map f new)
named_step f P found new x push one h =
    subst (AllByRecursion P) (sym (ap (map f) push ∙ map-append f found (x ∷ [])))
    (all_behind P (map f found) (f x ∷ []) h (one, tt))

pub named_more : (found new : List Name) (name : Name) → new ≡ found ++ name ∷ [] → IsName name
    → AllByRecursion IsName found → AllByRecursion IsName new
named_more found new name push one h =
    subst (AllByRecursion IsName) (sym push) (all_behind IsName found (name ∷ []) h (one, tt))

-- the channels of these names
infos_named : (is_input : Bool) (names : List Name) → AllByRecursion IsName names
    → AllByRecursion (λ channel. IsName channel.name) (map (channel_info is_input) names)
infos_named is_input [] h = tt
infos_named is_input (name ∷ names) h = (h.0, infos_named is_input names h.1)

pub channels_named : (inputs outputs : List Name) → AllByRecursion IsName inputs
    → AllByRecursion IsName outputs
    → AllByRecursion (λ channel. IsName channel.name)
    (map (channel_info true) inputs ++ map (channel_info false) outputs)
channels_named inputs outputs h k =
    all_behind (λ channel. IsName channel.name) (map (channel_info true) inputs)
    (map (channel_info false) outputs) (infos_named true inputs h) (infos_named false outputs k)
