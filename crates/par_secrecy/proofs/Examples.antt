-- Small subjects that the definitions are checked against.
use Rattle.std.proofs.Common.{◌≡◌, ap, subst, ℕ, ◌<◌, ◌^◌, ◌||◌, false, List, [], ◌∷◌, ℤ, pos, All}
use Rattle.std.proofs.Common.{refl, codes, lit<, arith}
use Rattle.std.specs.Prelude.{IsTrue, Bool, true, cond, FitsSigned, if◌then◌else◌}
use Rattle.std.specs.Str.{bytes_eq}
use Rattle.std.specs.Int.{w32}
use Rattle.std.specs.Ordering.{int_eq}
use Rattle.std.proofs.lemmas.Int.{fits_signed_from_abs}
use Rattle.std.proofs.lemmas.List.Elements.{All-nil, All-cons, All-head}
use Rattle.par_values.specs.declared.run.Event.{Event}
use Rattle.par_values.specs.declared.run.Event.TheVariants.{Out, Set, Put, Born}
use Rattle.par_values.specs.declared.inputs.Inputs.{Inputs}
use Rattle.par_values.specs.declared.inputs.ChannelInput.{ChannelInput}
use Rattle.par_secrecy.specs.Runs.{Run, Witnessed, with_first, over}
use Rattle.par_secrecy.specs.Subject.{Policy, Subject, Fits, InputChannel, given, is_of}
use Rattle.par_secrecy.specs.Shown.{Observer, Alike, sees}
use Rattle.par_secrecy.specs.Secure.{Secure, NextAgree}

-- Actor 0 sees the key where lock 0 is open, and what is put out on `show` anyway.
abbrev guarded : Policy
guarded = record { actor = 0; locks = 0 ∷ [] } ∷ []

abbrev open_to_all : Policy
open_to_all = record { actor = 0; locks = [] } ∷ []

abbrev key_channel : InputChannel
key_channel = record { class = codes "A"; name = codes "key"; policy = guarded }

abbrev first_of : List ℤ → ℤ
first_of [] = pos 0
first_of (v ∷ vs) = v

abbrev pub shows : List ℕ → ℤ → Witnessed
shows locks v = record { event = Out (codes "A") (codes "show") v; locks = locks }

abbrev keeps : ℤ → Witnessed
keeps v = record { event = Out (codes "A") (codes "keep") v; locks = [] }

-- the policy of `keep` is that of the key
abbrev pub policy : Event → Policy
policy (Out class name v) = if bytes_eq name (codes "show") then open_to_all else guarded
policy (Set class name v) = []
policy (Put class n name v) = []
policy (Born class n) = []

-- what a program makes of its key
abbrev pub subject : (ℤ → Run) → Subject
subject f =
    record {
      actors = 1;
      inputs = key_channel ∷ [];
      policy = policy;
      run = λ inputs n. f (first_of (given inputs.channels (codes "A") (codes "key")));
    }

abbrev pub one_line : ℕ → ChannelInput
one_line n = record { class = codes "A"; channel = codes "key"; numbers = pos n ∷ [] }

abbrev pub key : ℕ → Inputs
key n = record { channels = one_line n ∷ [] }

abbrev pub plain : Observer
plain = record { actor = 0; locks = [] }

abbrev holder : Observer
holder = record { actor = 0; locks = 0 ∷ [] }

pub all_of_one : {X : Type 0} (P : X → Type 0) (x : X) → P x → All P (x ∷ [])
all_of_one P x h = All-cons P x [] h (All-nil P)

abbrev AlikeAt : Observer → Inputs → Inputs → InputChannel → Type 0
AlikeAt o a b c =
    IsTrue (sees o c.policy) → given a.channels c.class c.name ≡ given b.channels c.class c.name

-- who lacks the lock cannot tell two keys apart
pub alike_for_plain : (f : ℤ → Run) → Alike (subject f) plain (key 1) (key 2)
alike_for_plain f = all_of_one (AlikeAt plain (key 1) (key 2)) key_channel (λ seen. cc)

not_for_holder : (f : ℤ → Run) → Alike (subject f) holder (key 1) (key 2) → ⊥
not_for_holder f h =
    let same = All-head (AlikeAt holder (key 1) (key 2)) key_channel [] h refl in cc

-- a channel without a line has the empty list
not_without_line : (f : ℤ → Run) → Alike (subject f) holder (key 0) (record { channels = [] }) → ⊥
not_without_line f h = let same =
    All-head (AlikeAt holder (key 0) (record { channels = [] })) key_channel [] h refl in cc

pub key_fits : (f : ℤ → Run) (n : ℕ) → n < 2 ^ 31 → Fits (subject f) (key n)
key_fits f n small = record {
  declared =
      all_of_one (λ line. IsTrue (is_of (codes "A") (codes "key") line || false)) (one_line n) refl;
  once = λ i j d less short. absurd (omega arith);
  numbers =
      all_of_one (λ line. All (λ v. FitsSigned w32 v) line.numbers) (one_line n)
      (all_of_one (λ v. FitsSigned w32 v) (pos n) (fits_signed_from_abs w32 (pos n) small));
}

-- to show the key where no lock is open is a leak
leaks : Secure (subject (λ v. with_first (shows [] v) over)) → ⊥
leaks secure =
    let f : ℤ → Run = λ v. with_first (shows [] v) over in
    let same : (shows [] (pos 1)).event ≡ (shows [] (pos 2)).event =
    secure plain (lit< tt) (key 1) (key 2) (key_fits f 1 (lit< tt)) (key_fits f 2 (lit< tt))
    (alike_for_plain f) 0 0 0 (shows [] (pos 1)) (shows [] (pos 2)) refl refl refl refl refl in
    cc

-- the lock is open where the key is 1
abbrev at_one : ℤ → List ℕ
at_one v = if int_eq v (pos 1) then 0 ∷ [] else []

-- and so is a second event, behind one that a lock was open at: the locks of earlier events are not
-- compared
leaks_later : Secure (subject
    (λ v. with_first (shows (at_one v) (pos 7)) (with_first (shows [] v) over))) → ⊥
leaks_later secure =
    let f : ℤ → Run = λ v. with_first (shows (at_one v) (pos 7)) (with_first (shows [] v) over) in
    let same : (shows [] (pos 1)).event ≡ (shows [] (pos 2)).event =
    secure plain (lit< tt) (key 1) (key 2) (key_fits f 1 (lit< tt)) (key_fits f 2 (lit< tt))
    (alike_for_plain f) 0 0 1 (shows [] (pos 1)) (shows [] (pos 2)) refl refl refl refl refl in
    cc

next_of_equals : (o : Observer) (xs : List Witnessed) (k : ℕ) → NextAgree o xs xs k
next_of_equals o xs k a b p q = let same : a ≡ b = cc in λ e u v. ap (λ w. w.event) same

next_kept : (o : Observer) (seen : Bool) (u v : ℤ) (k : ℕ) → (IsTrue seen → u ≡ v)
    → NextAgree o (cond seen (keeps u ∷ []) []) (cond seen (keeps v ∷ []) []) k
next_kept o true u v k h =
    subst (λ w. NextAgree o (keeps u ∷ []) (keeps w ∷ []) k) (h refl)
    (next_of_equals o (keeps u ∷ []) k)
next_kept o false u v k h = λ a b p. cc

-- A copy for those that see the key tells nobody more.
keeps_it : Secure (subject (λ v. with_first (keeps v) over))
keeps_it o declared one other fits fits' alike m n k =
    next_kept o (sees o guarded) _ _ k
    (λ seen. ap first_of (All-head (AlikeAt o one other) key_channel [] alike seen))

-- Runs of different bounds are compared too.
tells_its_bound : Secure
    (record {
      actors = 1;
      inputs = [];
      policy = policy;
      run = λ inputs n. with_first (shows [] (pos n)) over;
    }) → ⊥
tells_its_bound secure =
    let nothing : Inputs = record { channels = [] } in
    let fits : Fits (record {
      actors = 1;
      inputs = [];
      policy = policy;
      run = λ inputs n. with_first (shows [] (pos n)) over;
    }) nothing =
    record {
      declared = All-nil _;
      once = λ i j d less short. absurd (omega arith);
      numbers = All-nil _;
    } in
    let same : (shows [] (pos 1)).event ≡ (shows [] (pos 2)).event =
    secure plain (lit< tt) nothing nothing fits fits (All-nil _) 1 2 0 (shows [] (pos 1))
    (shows [] (pos 2)) refl refl refl refl refl in
    cc

-- Nobody sees the key, and what is put out on `keep` is seen by those that have the lock.
abbrev hidden : Subject
hidden =
    record (subject (λ v. with_first (keeps v) over)) {
      inputs =
          record key_channel { policy = [] } ∷ [];
    }

hidden_fits : (n : ℕ) → n < 2 ^ 31 → Fits hidden (key n)
hidden_fits n small =
    let like = key_fits (λ v. with_first (keeps v) over) n small in
    record { declared = like.declared; once = like.once; numbers = like.numbers }

leaks_to_a_holder : Secure hidden → ⊥
leaks_to_a_holder secure =
    let alike : Alike hidden holder (key 1) (key 2) =
    all_of_one (λ c. AlikeAt holder (key 1) (key 2) c) (record key_channel { policy = [] })
    (λ seen. cc) in
    let same : (keeps (pos 1)).event ≡ (keeps (pos 2)).event =
    secure holder (lit< tt) (key 1) (key 2) (hidden_fits 1 (lit< tt)) (hidden_fits 2 (lit< tt))
    alike 0 0 0 (keeps (pos 1)) (keeps (pos 2)) refl refl refl refl refl in
    cc
