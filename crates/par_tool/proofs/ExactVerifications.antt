-- The status of a verification is the one that its files ask for.
use Rattle.std.proofs.Common.{◌≡◌, ℕ, zero, suc, List, [], ◌∷◌, Option, Some, None, refl, sym, ap}
use Rattle.std.proofs.Common.{subst, ◌∙◌}
use Rattle.std.proofs.Common.{inl, inr, Bool, true, false, ◌==◌}
use Rattle.std.specs.List.{AllZip, slice_get}
use Rattle.par_io.specs.Causes.{FolderCounts, Files}
use Rattle.par_class.specs.declared.file.CodeAttr.{CodeAttr}
use Rattle.par_class.specs.declared.file.MethodFile.{MethodFile}
use Rattle.par_class.specs.declared.file.ClassFile.{ClassFile}
use Rattle.par_pool.specs.declared.reader.TheConstants.{LONGEST_CLASS}
use Rattle.par_kinds.specs.declared.frame.MethodFrames.{MethodFrames}
use Rattle.par_kinds.specs.declared.frame.PlacedFrame.{PlacedFrame}
use Rattle.par_verify.specs.par_frames.Broken.{AreFrames, AreFramesIf, AreGivenIn, HasFrames}
use Rattle.par_verify.specs.par_verify_laws.Verified.{AllFrames, AreFramesOf, AreVerified}
use Rattle.par_framed_program.specs.Framed.{AreFramed, IsUnframed}
use Rattle.par_loader.specs.Reads.{Classes, AreOf, class_file}
use Rattle.par_loader.specs.Loaded as loaded
use Rattle.par_loader.specs.Loaded.{Loaded, Load}
use Rattle.par_loader.specs.Judged.{judged}
use Rattle.par_loader.proofs.Ended.{IsStop}
use Rattle.par_tool.specs.declared.answer.Answer.{Answer}
use Rattle.par_tool.specs.declared.answer.Answer.TheVariants.{Verified, Absent, ReadFault, TooLong}
use Rattle.par_tool.specs.declared.answer.Answer.TheVariants.{BadClass}
use Rattle.par_tool.specs.Texts.{status}
use Rattle.par_tool.specs.Outside.{Text, IsThere}
use Rattle.par_tool.specs.Classes.{ends_so, AreLinked}
use Rattle.par_tool.specs.Verifications.{AreFit, IsUnverifiable, VerifiedSo}
use Rattle.par_tool.specs.Exactly.{IsSaidBy, IsStatus, TellsVerification, TellsVerified}
use Rattle.par_tool.proofs.Statuses as near
use Rattle.par_tool.proofs.Statuses.{IsNear, same, near_status}
use Rattle.par_tool.proofs.ExactRuns.{stop_status, ends_missing, ends_overlong, links_or_stops}
use Rattle.par_tool.proofs.ExactRuns.{as_judged}

-- ---- the frames of files are those that they tell

given-once : (file : ClassFile) (m : MethodFile) (code : Option CodeAttr) (a b : List PlacedFrame)
    → AreGivenIn file m code a → AreGivenIn file m code b → a ≡ b
given-once file m None a b x y = x ∙ sym y
given-once file m (Some code) a b x y =
    let e : Some a ≡ Some b = sym x.given ∙ y.given in cc

frames-if : (is : Bool) (file : ClassFile) (m : MethodFile) (a b : MethodFrames)
    → AreFramesIf is file m a → AreFramesIf is file m b → a ≡ b
frames-if true file m a b x y =
    ap (λ at. let f : MethodFrames = record { at = at } in f)
    (given-once file m m.code a.at b.at x y)
frames-if false file m a b x y =
    ap (λ at. let f : MethodFrames = record { at = at } in f) (x ∙ sym y)

-- two lists beside the same list, where what stands beside an item is known
zipped-once : {A B : Type 0} (R : A → B → Type 0)
    → ((x : A) (y z : B) → R x y → R x z → y ≡ z)
    → (xs : List A) (ys zs : List B) → AllZip R xs ys → AllZip R xs zs → ys ≡ zs
zipped-once R once [] [] [] h k = refl
zipped-once R once [] [] (z ∷ zs) h k = absurd k
zipped-once R once [] (y ∷ ys) zs h k = absurd h
zipped-once R once (x ∷ xs) [] zs h k = absurd h
zipped-once R once (x ∷ xs) (y ∷ ys) [] h k = absurd k
zipped-once R once (x ∷ xs) (y ∷ ys) (z ∷ zs) h k =
    ap (λ u. u ∷ ys) (once x y z h.0 k.0)
    ∙ ap (λ us. z ∷ us) (zipped-once R once xs ys zs h.1 k.1)

frames-once : (all : List ClassFile) (a b : AllFrames) → AreFramesOf all a → AreFramesOf all b
    → a ≡ b
frames-once =
    zipped-once (λ file frames. AllZip (AreFrames file) file.methods frames)
    (λ file. zipped-once (AreFrames file) (λ m. frames-if (file.major == 51) file m) file.methods)

-- where each method has frames, there are those of all
frames-there : (file : ClassFile) (ms : List MethodFile)
    → ((p : ℕ) (m : MethodFile) → slice_get ms p ≡ Some m → HasFrames file m)
    → (fs : List MethodFrames) × AllZip (AreFrames file) ms fs
frames-there file [] each = ([], tt)
frames-there file (m ∷ ms) each =
    let one = each 0 m refl in
    let more = frames-there file ms (λ p n is. each (suc p) n is) in
    (one.0 ∷ more.0, (one.1, more.1))

pub all-frames : (all : List ClassFile) → AreFramed all
    → (frames : AllFrames) × AreFramesOf all frames
all-frames [] framed = ([], tt)
all-frames (file ∷ all) framed =
    let one = frames-there file file.methods (framed 0 file refl) in
    let more = all-frames all (λ n f is. framed (suc n) f is) in
    (one.0 ∷ more.0, (one.1, more.1))

-- ---- files that are refused are not verified

beside : {A B : Type 0} (R : A → B → Type 0) (xs : List A) (ys : List B) (k : ℕ) (x : A)
    → AllZip R xs ys → slice_get xs k ≡ Some x → (y : B) × R x y
beside R [] ys k x h is = absurd (cc is)
beside R (w ∷ xs) [] k x h is = absurd h
beside R (w ∷ xs) (y ∷ ys) zero x h is =
    let same : w ≡ x = cc is in (y, subst (λ v. R v y) same h.0)
beside R (w ∷ xs) (y ∷ ys) (suc k) x h is = beside R xs ys k x h.1 is

has-frames : (all : List ClassFile) (class : Text) (number value : ℕ)
    → IsUnframed all class number value → AreFit all → ⊥
has-frames all class number value u fit =
    let of_file = beside (λ file frames. AllZip (AreFrames file) file.methods frames) all
    fit.frames u.place u.file fit.of u.there in
    u.broken.has_none
    (beside (AreFrames u.file) u.file.methods of_file.0 value u.broken.broken of_file.1
    u.broken.there)

refused : (all : List ClassFile) (a : Answer) → IsUnverifiable all a → AreFit all → ⊥
refused all (BadClass class number value) (inl u) fit = has-frames all class number value u fit
refused all (BadClass class number value) (inr u) fit =
    let verified : AreVerified all u.frames =
    subst (AreVerified all) (frames-once all fit.frames u.frames fit.of u.of) fit.verified in
    u.unfit.unfit (verified u.place value u.unfit.coded)
refused all _ h fit = absurd h

-- ---- the status

-- what may come in the place of any status
any_end : (result : ℕ) → ((number : ℕ) → IsStatus result number) → (end : Loaded)
    → TellsVerification result end
any_end result any (loaded.whole all) = record { fit = λ h. any 0; unfit = λ h. any 12 }
any_end result any loaded.missing = any 3
any_end result any loaded.overlong = any 8
any_end result any (loaded.refused class number value) = any 12
any_end result any (loaded.absent class index) = any 12

stop_end : (result : ℕ) (end : Loaded) → IsStop end → IsStatus result (stop_status end)
    → TellsVerification result end
stop_end result (loaded.whole all) stop is = absurd stop
stop_end result loaded.missing stop is = is
stop_end result loaded.overlong stop is = is
stop_end result (loaded.refused class number value) stop is = is
stop_end result (loaded.absent class index) stop is = is

pub verification_wants : (files : Option Files) (main : Text) (result : ℕ)
    → ((number : ℕ) → IsStatus result number) → TellsVerified files main result
verification_wants files main result any = record {
  missing = λ m. any 3;
  overlong = λ m. any 8;
  there = λ bytes at classes of. any_end result any (judged classes main).end;
}

module _ (files : Option Files) (before after : FolderCounts) (main : Text) where
  -- what a verification comes to: a read failed, or the class files do not link; or they do, and
  -- frames fit, or they are refused
  pub data Outcome (a : Answer) : Type 0 where
    faulty : a ≡ ReadFault → Outcome a
    unlinked : (classes : Classes) → AreOf files classes → (reads : ℕ) (end : Loaded) → IsStop end
        → ends_so (judged classes main) reads end → status a ≡ stop_status end → Outcome a
    fits : (reads : ℕ) (all : List ClassFile) → AreLinked files main reads all → AreFit all
        → status a ≡ 0 → Outcome a
    fits_not : (reads : ℕ) (all : List ClassFile) → AreLinked files main reads all
        → (AreFit all → ⊥) → status a ≡ 12 → Outcome a

  pub outcome : (a : Answer) → VerifiedSo files before after main a → Outcome a
  outcome (Verified many) h = fits h.0 h.2.0 h.2.1 h.2.2.0.1 refl
  outcome Absent h = unlinked h.0 h.1 h.2.0 loaded.missing tt h.2.2.0 refl
  outcome TooLong h = unlinked h.0 h.1 h.2.0 loaded.overlong tt h.2.2.0 refl
  outcome ReadFault h = faulty refl
  outcome (BadClass class number value) (inl (classes, of, (reads, makes, inl is))) =
      unlinked classes of reads (loaded.refused class number value) tt is refl
  outcome (BadClass class number value) (inl (classes, of, (reads, makes, inr is))) =
      unlinked classes of reads (loaded.absent class value) tt is.0 refl
  outcome (BadClass class number value) (inr h) =
      fits_not h.0 h.2.0 h.2.1 (refused h.2.0 (BadClass class number value) h.2.2) refl
  outcome _ h = absurd h

  -- where its file stops all class files so
  stops_so : (more : ℕ) (end : Loaded) → IsStop end
      → ((classes : Classes) → AreOf files classes → ends_so (judged classes main) more end)
      → (a : Answer) → Outcome a → IsNear (stop_status end) a
  stops_so more end stop ends a (faulty e) = near.reads (ap status e)
  stops_so more end stop ends a (unlinked classes of reads other stops is stands) =
      same (stands ∙ ap (λ (l : Load). stop_status l.end) (sym is ∙ ends classes of))
  stops_so more end stop ends a (fits reads all h fit stands) =
      absurd (links_or_stops files before after main [] reads more all end h stop
      (ends h.classes h.of))
  stops_so more end stop ends a (fits_not reads all h unfit stands) =
      absurd (links_or_stops files before after main [] reads more all end h stop
      (ends h.classes h.of))

  module _ (result : ℕ) where
    -- the class files that are there come to what they were found to come to
    tells_so : (bytes : Text) → IsThere files LONGEST_CLASS (class_file main) bytes
        → (classes others : Classes) → AreOf files classes → AreOf files others
        → (reads : ℕ) (end : Loaded) → ends_so (judged others main) reads end
        → TellsVerification result end → TellsVerification result (judged classes main).end
    tells_so bytes there classes others of are reads end is told =
        let e : end ≡ (judged classes main).end =
        ap (λ (l : Load). l.end)
        (sym is ∙ as_judged files before after main [] files bytes there others classes are of) in
        subst (TellsVerification result) e told

    there_so : (a : Answer) → Outcome a → IsSaidBy result (status a) → (bytes : Text)
        → IsThere files LONGEST_CLASS (class_file main) bytes
        → (classes : Classes) → AreOf files classes
        → TellsVerification result (judged classes main).end
    there_so a (faulty e) said bytes there classes of =
        any_end result (λ number. near_status number result a (near.reads (ap status e)) said)
        (judged classes main).end
    there_so a (unlinked others are reads end stop is stands) said bytes there classes of =
        tells_so bytes there classes others of are reads end is
        (stop_end result end stop (near_status (stop_status end) result a (same stands) said))
    there_so a (fits reads all h fit stands) said bytes there classes of =
        tells_so bytes there classes h.classes of h.of reads (loaded.whole all) h.links
        (record {
          fit = λ f. near_status 0 result a (same stands) said;
          unfit = λ never. absurd (never fit);
        })
    there_so a (fits_not reads all h unfit stands) said bytes there classes of =
        tells_so bytes there classes h.classes of h.of reads (loaded.whole all) h.links
        (record {
          fit = λ f. absurd (unfit f);
          unfit = λ never. near_status 12 result a (same stands) said;
        })

    told : (a : Answer) → Outcome a → IsSaidBy result (status a) → TellsVerified files main result
    told a h said = record {
      missing =
          λ m. near_status 3 result a
          (stops_so 1 loaded.missing tt
          (λ classes of. ends_missing files before after main [] classes of m) a h) said;
      overlong =
          λ m. near_status 8 result a
          (stops_so 1 loaded.overlong tt
          (λ classes of. ends_overlong files before after main [] classes of m) a h) said;
      there = λ bytes at classes of. there_so a h said bytes at classes of;
    }

    pub tells_verified : (a : Answer) → VerifiedSo files before after main a
        → IsSaidBy result (status a) → TellsVerified files main result
    tells_verified a h said = told a (outcome a h) said
