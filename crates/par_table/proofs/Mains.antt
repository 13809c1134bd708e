-- Methods are searched one by one.
use Rattle.std.proofs.Common.{◌≡◌, ℕ, ◌+◌, ◌<◌, ◌≤◌, Bool, true, false, ◌||◌, List, length, drop}
use Rattle.std.proofs.Common.{get_or, sym, ap, ◌∙◌}
use Rattle.std.specs.List.{list_any}
use Rattle.par_tree.specs.declared.decl.MethodDecl.{MethodDecl}
use Rattle.par_tree.specs.Plain.{Method}
use Rattle.par_tree.specs.Shown.{method, methods}
use Rattle.par_resolved.proofs.Loops.{drop_more, none_left}

one_more : (t : Method → Bool) (ms : List MethodDecl) (i : ℕ) (m : MethodDecl) → i < length ms
    → m ≡ get_or ms i m
    → list_any t (methods (drop i ms)) ≡ (t (method m) || list_any t (methods (drop (i + 1) ms)))
one_more t ms i m inside is = ap (λ ns. list_any t (methods ns)) (drop_more ms i m inside is)

pub found : (t : Method → Bool) (ms : List MethodDecl) (i : ℕ) (m : MethodDecl) (whole : Bool)
    → i < length ms → m ≡ get_or ms i m
    → t (method m) ≡ true → list_any t (methods (drop i ms)) ≡ whole → true ≡ whole
found t ms i m whole inside is h so =
    ap (λ b. b || list_any t (methods (drop (i + 1) ms))) (sym h)
    ∙ sym (one_more t ms i m inside is) ∙ so

pub passed : (t : Method → Bool) (ms : List MethodDecl) (i : ℕ) (m : MethodDecl) (whole : Bool)
    → i < length ms → m ≡ get_or ms i m
    → t (method m) ≡ false → list_any t (methods (drop i ms)) ≡ whole
    → list_any t (methods (drop (i + 1) ms)) ≡ whole
passed t ms i m whole inside is h so =
    ap (λ b. b || list_any t (methods (drop (i + 1) ms))) (sym h)
    ∙ sym (one_more t ms i m inside is) ∙ so

pub ended : (t : Method → Bool) (ms : List MethodDecl) (i : ℕ) (whole : Bool) → length ms ≤ i
    → list_any t (methods (drop i ms)) ≡ whole → false ≡ whole
ended t ms i whole past so = ap (λ ns. list_any t (methods ns)) (sym (none_left ms i past)) ∙ so
