-- All methods of a file are put, and there is room for them.
use Rattle.std.proofs.Common.{◌≡◌, ℕ, ◌+◌, ◌*◌, ◌≤◌, List, [], ◌∷◌, ◌++◌, length, map, true, false}
use Rattle.std.proofs.Common.{Bool, subst}
use Rattle.std.proofs.Common.{sym, ap, arith}
use Rattle.par_pool.specs.declared.constant.Constant.{Constant}
use Rattle.par_values.specs.Areas.{Name}
use Rattle.par_erase.specs.declared.program.PlainField.{PlainField}
use Rattle.par_erase.specs.declared.program.PlainMethod.{PlainMethod}
use Rattle.par_erase.specs.declared.program.PlainClass.{PlainClass}
use Rattle.par_erase.specs.declared.program.Plain.{Plain}
use Rattle.par_erase.specs.Shown.{class_info}
use Rattle.par_compile_laws.specs.Members.{Member, initializer}
use Rattle.par_compile.specs.declared.draft.Draft.{Draft}
use Rattle.par_compile.specs.Growing.{Extends, IsOfMembers}
use Rattle.par_compile.specs.Drafts.{Puts}
use Rattle.par_framing.specs.par_frames.Room.{HasRoom}
use Rattle.par_compile.specs.Own.{channel_in, method_in, own_members, class_entries}
use Rattle.par_compile.specs.Own.{members_entries}
use Rattle.par_compile.specs.Own.{methods_entries, methods_classes}
use Rattle.par_compile.proofs.Growing.{extends, extends_then, room_left}
use Rattle.par_compile.proofs.Members.{puts_then}

pub members_put : (frames : Bool) (p : Plain) (k : PlainClass) (ins outs : List Name)
    (ms : List PlainMethod) (a b c d e : Draft) → ins ≡ k.inputs → outs ≡ k.outputs → ms ≡ k.methods
    → Puts frames (initializer (class_info k) ∷ []) a b
    → Puts frames (map (channel_in true) ins) b c → Puts frames (map (channel_in false) outs) c d
    → Puts frames (map (method_in p) ms) d e → Puts frames (own_members p k) a e
members_put frames p k ins outs ms a b c d e ins-is outs-is ms-is first inputs outputs methods =
    let taken = map (channel_in true) k.inputs in
    let given = map (channel_in false) k.outputs in
    let declared = map (method_in p) k.methods in
    let inputs' : Puts frames taken b c =
    subst (λ (xs : List Name). Puts frames (map (channel_in true) xs) b c) ins-is inputs in
    let outputs' : Puts frames given c d =
    subst (λ (xs : List Name). Puts frames (map (channel_in false) xs) c d) outs-is outputs in
    let methods' : Puts frames declared d e =
    subst (λ (xs : List PlainMethod). Puts frames (map (method_in p) xs) d e) ms-is methods in
    puts_then frames (initializer (class_info k) ∷ []) (taken ++ (given ++ declared)) a b e first
    (puts_then frames taken (given ++ declared) b c e inputs'
    (puts_then frames given declared c d e outputs' methods'))

pub members_room : (frames : Bool) (p : Plain) (k : PlainClass) (ins outs : List Name)
    (ms : List PlainMethod) (some more others : List Member) (a b c d : Draft)
    → ins ≡ k.inputs → outs ≡ k.outputs → ms ≡ k.methods
    → Puts frames some a b → Puts frames more b c → Puts frames others c d
    → length b.pool ≤ length a.pool + 8 → length c.pool ≤ length b.pool + 2 * length ins
    → length d.pool ≤ length c.pool + 2 * length outs
    → HasRoom a.pool (members_entries frames p k) (methods_classes frames p k.methods)
    → HasRoom d.pool (methods_entries frames p ms) (methods_classes frames p ms)
members_room frames p k ins outs ms some more others a b c d ins-is outs-is ms-is first second
    third few inputs outputs room =
    let few' = 8 + (2 * length k.inputs + 2 * length k.outputs) in
    let left = methods_entries frames p k.methods in
    let same : members_entries frames p k ≡ few' + left = omega arith in
    let ab = extends (IsOfMembers some) a.pool b.pool first.grows in
    let bc = extends (IsOfMembers more) b.pool c.pool second.grows in
    let cd = extends (IsOfMembers others) c.pool d.pool third.grows in
    let ad = extends_then a.pool b.pool d.pool ab (extends_then b.pool c.pool d.pool bc cd) in
    let ins-long : length ins ≡ length k.inputs = ap length ins-is in
    let outs-long : length outs ≡ length k.outputs = ap length outs-is in
    let le : length d.pool ≤ length a.pool + few' =
    omega (arith, few, inputs, outputs, ins-long, outs-long) in
    let whole : HasRoom d.pool left (methods_classes frames p k.methods) =
    room_left few' left (methods_classes frames p k.methods) a.pool d.pool ad le
    (subst (λ (n : ℕ). HasRoom a.pool n (methods_classes frames p k.methods)) same room) in
    let back : k.methods ≡ ms = sym ms-is in
    subst (λ (xs : List PlainMethod).
    HasRoom d.pool (methods_entries frames p xs) (methods_classes frames p xs)) back whole

-- room for the methods behind the texts, classes and fields
pub class_room : (frames : Bool) (p : Plain) (k : PlainClass) (fs : List PlainField)
    (names : List Name) (start a b c d : List Constant) → start ≡ [] → fs ≡ k.fields
    → Extends start a → Extends a b → Extends b c → Extends c d
    → length a ≤ length start + 1 → length b ≤ length a + 2
    → length c ≤ length b + 2 → length d ≤ length c + 2 * length fs
    → HasRoom [] (class_entries frames p k) names → HasRoom d (members_entries frames p k) names
class_room frames p k fs names start a b c d none fs-is e f g h one two three fields room =
    let few = 5 + 2 * length k.fields in
    let same : class_entries frames p k ≡ few + members_entries frames p k = omega arith in
    let long : length fs ≡ length k.fields = ap length fs-is in
    let le : length d ≤ length start + few = omega (arith, one, two, three, fields, long) in
    let back : [] ≡ start = sym none in
    room_left few (members_entries frames p k) names start d
    (extends_then start a d e (extends_then a b d f (extends_then b c d g h))) le
    (subst (λ (q : List Constant). HasRoom q (few + members_entries frames p k) names) back
    (subst (λ (n : ℕ). HasRoom [] n names) same room))
