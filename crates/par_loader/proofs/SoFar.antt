-- Loading, one step after the other.
use Rattle.std.proofs.Common.{◌≡◌, ℕ, zero, suc, ◌+◌, ◌≤◌, false, List, [], ◌∷◌, ◌++◌, length}
use Rattle.std.proofs.Common.{Option, Some, None, refl, sym, ap, subst, ◌∙◌}
use Rattle.std.specs.List.{list_any}
use Rattle.std.specs.Str.{bytes_eq}
use Rattle.par_io.specs.Causes.{Files}
use Rattle.par_class.specs.declared.file.ClassFile.{ClassFile}
use Rattle.par_single.specs.Members.{own_name, own_names}
use Rattle.par_loader.specs.Reads.{Text, Classes, AreOf, WasFound}
use Rattle.par_loader.specs.Mentions.{Naming, next_named}
use Rattle.par_loader.specs.Found.{Found}
use Rattle.par_loader.specs.Loaded.{Loaded, whole, Load, goes_on, ends, asked, step}
use Rattle.par_loader.specs.Loaded.{main_step}
use Rattle.par_loader.specs.Loaded.{main_step_of, after, with_next, further, loaded}
use Rattle.par_loader.specs.Ends.{IsRead}
use Rattle.par_loader.proofs.Asked.{step_counted, files_counted}
use Rattle.par_loader.proofs.Unread.{unread_is_new, names_more}
use Rattle.par_loader.proofs.Seen.{seen, seen_of, put, put_of, put_here, Agrees, put_agrees}
use Rattle.par_loader.proofs.Seen.{front_among, back_among}

-- These files were read, and at most so many more are: so it is wherever their classes have the
-- same files.
pub record IsSoFar (files : Option Files) (main : Text) (fs : List ClassFile)
    (more : ℕ) : Type 0 where
  pub classes : Classes
  pub of : AreOf files classes
  pub so_far : (c : Classes) → Agrees c classes (own_names fs) → loaded c main ≡ further c more fs

-- some files that load so
abbrev pub ComesTo : Option Files → Text → Load → Type 0
ComesTo files main load = (classes : Classes) × AreOf files classes × (loaded classes main ≡ load)

further_more : (c : Classes) (more : ℕ) (fs : List ClassFile)
    → further c (suc more) fs ≡ with_next c fs (further c more) (next_named fs)
unfolding further
further_more c more fs = refl

further_none : (c : Classes) (fs : List ClassFile)
    → further c 0 fs ≡ record { reads = length fs; end = whole fs }
unfolding further
further_none c fs = refl

pub begun : (files : Option Files) (f : ClassFile) → IsRead files f
    → IsSoFar files (own_name f) (f ∷ []) 128
begun files f read =
    let main : Text = own_name f in
    record {
      classes = put (seen files) main (Some read.bytes);
      of = put_of files (seen files) main (Some read.bytes) (seen_of files) read.found;
      so_far = λ c agrees.
          let has : c main ≡ Some read.bytes =
          agrees main (back_among main []) ∙ put_here (seen files) main (Some read.bytes) in
          ap (λ (o : Option Text). after [] (further c 128) (main_step main o)) has
          ∙ ap (λ (x : Found). after [] (further c 128) (main_step_of main x)) read.taken;
    }

module _ (files : Option Files) (main : Text) (fs : List ClassFile) (more : ℕ) (m : Naming)
    (found : Option Text) (h : IsSoFar files main fs (suc more))
    (next : next_named fs ≡ Some m) (was : WasFound files m.name found) where
  new : list_any (bytes_eq m.name) (own_names fs) ≡ false
  new = unread_is_new fs m next

  -- with what was found
  abbrev pub now : Classes
  now = put h.classes m.name found

  -- the step is the next one
  stepped : (c : Classes) → Agrees c h.classes (own_names fs) → c m.name ≡ found
      → loaded c main ≡ after fs (further c more) (step m found)
  stepped c agrees has =
      h.so_far c agrees ∙ further_more c more fs ∙ ap (with_next c fs (further c more)) next
      ∙ ap (λ (o : Option Text). after fs (further c more) (step m o)) has

  pub gone_on : (f : ClassFile) → step m found ≡ goes_on f → own_name f ≡ m.name
      → IsSoFar files main (fs ++ f ∷ []) more
  gone_on f is own = record {
    classes = now;
    of = put_of files h.classes m.name found h.of was;
    so_far = λ c agrees.
        let names : own_names (fs ++ f ∷ []) ≡ own_names fs ++ m.name ∷ [] =
        names_more fs f ∙ ap (λ (n : Text). own_names fs ++ n ∷ []) own in
        let here : Agrees c now (own_names fs ++ m.name ∷ []) = subst (Agrees c now) names agrees in
        let before : Agrees c h.classes (own_names fs) =
        λ name among. here name (front_among name (own_names fs) m.name among)
        ∙ put_agrees h.classes m.name found (own_names fs) new name among in
        let has : c m.name ≡ found =
        here m.name (back_among m.name (own_names fs)) ∙ put_here h.classes m.name found in
        stepped c before has ∙ ap (after fs (further c more)) is;
  }

  pub ended : (reads : ℕ) (end : Loaded) → step m found ≡ ends reads end
      → loaded now main ≡ record { reads = length fs + reads; end = end }
  ended reads end is =
      stepped now (put_agrees h.classes m.name found (own_names fs) new)
      (put_here h.classes m.name found) ∙ ap (after fs (further now more)) is

  pub now_of : AreOf files now
  now_of = put_of files h.classes m.name found h.of was

  -- the files that were read, and that of the step, are among those that are asked for
  pub asks : length fs + asked (step m found) ≤ (loaded now main).reads
  asks =
      let is =
      stepped now (put_agrees h.classes m.name found (own_names fs) new)
      (put_here h.classes m.name found) in
      subst (λ (l : Load). length fs + asked (step m found) ≤ l.reads) (sym is)
      (step_counted now more (files_counted now more) fs (step m found))

module _ (files : Option Files) (main : Text) (fs : List ClassFile) where
  -- nothing more is named
  pub none_left : (more : ℕ) (h : IsSoFar files main fs more) → next_named fs ≡ None
      → loaded h.classes main ≡ record { reads = length fs; end = whole fs }
  none_left zero h none = h.so_far h.classes (λ name among. refl) ∙ further_none h.classes fs
  none_left (suc more) h none =
      h.so_far h.classes (λ name among. refl) ∙ further_more h.classes more fs
      ∙ ap (with_next h.classes fs (further h.classes more)) none

  -- no more is read
  pub all_read : (h : IsSoFar files main fs 0)
      → loaded h.classes main ≡ record { reads = length fs; end = whole fs }
  all_read h = h.so_far h.classes (λ name among. refl) ∙ further_none h.classes fs
