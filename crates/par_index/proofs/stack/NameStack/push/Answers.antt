use Rattle.std.proofs.Common.{◌≡◌, List, ℕ, true, cond, length, Some, sym, ap, subst, ◌∙◌, [], ◌∷◌}
use Rattle.std.proofs.Common.{◌++◌, arith}
use Rattle.std.proofs.lemmas.Grind.{common_steps}
use Rattle.std.proofs.lemmas.List.{map-append}
use Rattle.std.specs.Borrow.{Bor}
use Rattle.std.specs.List.{position}
use Rattle.std.specs.Str.{bytes_eq}
use Rattle.std.specs.HashMap.{get_by}
use Rattle.par_index.specs.Texts.{has, texts}
use Rattle.par_index.proofs.Stacked.{again, before, new, Keeps}
use Rattle.par_index.proofs.stack.NameStack.push.Goals.{then-not-has+in_ok-insert, else-not-has}
use Rattle.par_index.proofs.stack.NameStack.push.Goals as goal

pub invariant_of-self-in_err-push : goal.invariant_of-self-in_err-push
invariant_of-self-in_err-push c =
    let x = c.args.name.now in
    let names = texts c.self.inside.names.items in
    let kept = λ (n : List ℕ). get_by (λ key. bytes_eq n key.now) c.self.inside.firsts in
    let after =
    λ (n : List ℕ). get_by (λ key. bytes_eq n key.now) c.if-not-has.self-inside.firsts in
    let keeps : Keeps names kept = record { first = c.self.invariant } in
    let known = ap (λ ns. has ns x) c.self.view_is ∙ sym c.has.ensures in
    let holds = λ (ns : List (List ℕ)). (name : List ℕ) → has ns name ≡ true
    → after name ≡ position (bytes_eq name) ns in
    elim c.if-not-has.branch [
      | then-not-has+in_ok-insert w ↦
          let many : w.len.result ≡ length names =
          w.len.ensures ∙ grind (arith, common_steps) in
          let put = λ (name : List ℕ).
          ap (λ s. get_by (λ key. bytes_eq name key.now) s.firsts) w.self-inside-is
          ∙ w.in_ok-insert.ensures.updates.0 (record w.bytes.result { now = name })
          ∙ ap (λ n. cond (bytes_eq n name) (Some w.len.result) (kept name)) w.bytes.ensures.bytes
          ∙ ap (λ k. cond (bytes_eq x name) (Some k) (kept name)) many in
          subst holds
          (sym (ap texts c.in_err-push.ensures.items
          ∙ ap (λ s. texts s.names.items) w.self-inside-is))
          (before names kept after x keeps (known ∙ w.if-not-has.true) put).first
      | else-not-has w ↦
          let still =
          λ (name : List ℕ). ap (λ s. get_by (λ key. bytes_eq name key.now) s.firsts)
          w.self-inside-is in
          subst holds
          (sym (ap texts c.in_err-push.ensures.items
          ∙ ap (λ s. texts s.names.items) w.self-inside-is))
          (λ name h. still name ∙ keeps.first name h)
    ]

pub invariant_of-self-2 : goal.invariant_of-self-2
invariant_of-self-2 c =
    let x = c.args.name.now in
    let names = texts c.self.inside.names.items in
    let kept = λ (n : List ℕ). get_by (λ key. bytes_eq n key.now) c.self.inside.firsts in
    let after =
    λ (n : List ℕ). get_by (λ key. bytes_eq n key.now) c.if-not-has.self-inside.firsts in
    let keeps : Keeps names kept = record { first = c.self.invariant } in
    let known = ap (λ ns. has ns x) c.self.view_is ∙ sym c.has.ensures in
    let holds = λ (ns : List (List ℕ)). (name : List ℕ) → has ns name ≡ true
    → after name ≡ position (bytes_eq name) ns in
    let now = λ (t : Bor (List ℕ)). t.now in
    let pushed : (ts : List (Bor (List ℕ))) → ts ≡ c.self.inside.names.items
    → texts (ts ++ c.bytes-2.result ∷ []) ≡ names ++ x ∷ [] = λ ts e.
    ap (λ us. texts (us ++ c.bytes-2.result ∷ [])) e
    ∙ map-append now c.self.inside.names.items (c.bytes-2.result ∷ [])
    ∙ ap (λ n. names ++ n ∷ []) c.bytes-2.ensures.bytes in
    elim c.if-not-has.branch [
      | then-not-has+in_ok-insert w ↦
          let many : w.len.result ≡ length names =
          w.len.ensures ∙ grind (arith, common_steps) in
          let put = λ (name : List ℕ).
          ap (λ s. get_by (λ key. bytes_eq name key.now) s.firsts) w.self-inside-is
          ∙ w.in_ok-insert.ensures.updates.0 (record w.bytes.result { now = name })
          ∙ ap (λ n. cond (bytes_eq n name) (Some w.len.result) (kept name)) w.bytes.ensures.bytes
          ∙ ap (λ k. cond (bytes_eq x name) (Some k) (kept name)) many in
          subst holds
          (sym (ap texts c.in_ok-push.ensures.items
          ∙ pushed _ (ap (λ s. s.names.items) w.self-inside-is)))
          (new names kept after x keeps (known ∙ w.if-not-has.true) put).first
      | else-not-has w ↦
          let still =
          λ (name : List ℕ). ap (λ s. get_by (λ key. bytes_eq name key.now) s.firsts)
          w.self-inside-is in
          subst holds
          (sym (ap texts c.in_ok-push.ensures.items
          ∙ pushed _ (ap (λ s. s.names.items) w.self-inside-is)))
          (λ name h. still name ∙ (again names kept x keeps (known ∙ w.if-not-has.false)).first name
          h)
    ]
