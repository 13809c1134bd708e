-- A store in which nothing is written.
use Rattle.std.proofs.Common.{◌≡◌, ℕ, ℤ, List, [], Option, None, unwrap_or, ap, ◌∙◌, nat_eq}
use Rattle.std.specs.Borrow.{Bor}
use Rattle.std.specs.Map.{lookup}
use Rattle.std.proofs.Math.Path.{fun_ext}
use Rattle.par_values.specs.declared.value.MVal.{MVal}
use Rattle.par_source_state.specs.Held.{Held, Kept, same_member, same_field, static_in, births_in}
use Rattle.par_source_state.specs.Held.{field_in, input_in, numbers_left}

abbrev held_of : (ℕ → ℕ → Option MVal) → (ℕ → ℕ) → (ℕ → ℕ → ℕ → Option MVal)
    → (ℕ → ℕ → Option (List ℤ)) → List ℕ → Held
held_of s b f i l = record { statics = s; births = b; fields = f; inputs = i; locks = l }

pub nothing_held : (s : Kept (ℕ × ℕ) MVal) (b : Kept ℕ ℕ) (f : Kept (ℕ × ℕ × ℕ) MVal)
    (i : Kept (ℕ × ℕ) (Bor (List ℤ))) (l : List ℕ)
    → s.entries ≡ [] → b.entries ≡ [] → f.entries ≡ [] → i.entries ≡ [] → l ≡ []
    → held_of (static_in s) (births_in b) (field_in f) (input_in i) l
    ≡ held_of (λ c f. None) (λ c. 0) (λ c n f. None) (λ c k. None) []
nothing_held s b f i l no_s no_b no_f no_i no_l =
    ap (λ (x : ℕ → ℕ → Option MVal). held_of x (births_in b) (field_in f) (input_in i) l)
    (fun_ext (λ c. fun_ext (λ k. ap (λ es. lookup (same_member (c, k)) es) no_s)))
    ∙ ap (λ (x : ℕ → ℕ). held_of (λ c f. None) x (field_in f) (input_in i) l)
    (fun_ext (λ c. ap (λ es. unwrap_or (lookup (nat_eq c) es) 0) no_b))
    ∙ ap (λ (x : ℕ → ℕ → ℕ → Option MVal). held_of (λ c f. None) (λ c. 0) x (input_in i) l)
    (fun_ext (λ c. fun_ext (λ n. fun_ext (λ k. ap (λ es. lookup (same_field (c, n, k)) es) no_f))))
    ∙ ap (λ (x : ℕ → ℕ → Option (List ℤ)). held_of (λ c f. None) (λ c. 0) (λ c n f. None) x l)
    (fun_ext (λ c. fun_ext (λ k. ap (λ es. numbers_left (lookup (same_member (c, k)) es)) no_i)))
    ∙ ap (λ (x : List ℕ). held_of (λ c f. None) (λ c. 0) (λ c n f. None) (λ c k. None) x) no_l
