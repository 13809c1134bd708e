-- A method has frames by its version, its code and the attributes of that.
use Rattle.std.proofs.Common.{◌≡◌, Bool, true, false, ◌==◌, ◌↔◌, List, [], Some, None, refl}
use Rattle.std.proofs.Common.{sym, subst, ◌∙◌}
use Rattle.par_class.specs.declared.file.CodeAttr.{CodeAttr}
use Rattle.par_class.specs.declared.file.MethodFile.{MethodFile}
use Rattle.par_class.specs.declared.file.ClassFile.{ClassFile}
use Rattle.par_kinds.specs.declared.frame.PlacedFrame.{PlacedFrame}
use Rattle.par_kinds.specs.declared.frame.MethodFrames.{MethodFrames}
use Rattle.par_frames.specs.Given.{frames_given}
use Rattle.par_frames.specs.Broken.{AreGiven, AreGivenIn, AreFramesIf, AreFrames, HasFrames}
use Rattle.par_given_frames.specs.Named.{GivesFrames}

module _ (file : ClassFile) (m : MethodFile) where
  abbrev no_frames : MethodFrames
  no_frames = record { at = [] }

  -- in a file of another version
  pub none-wanted : (file.major == 51) ≡ false → (fs : MethodFrames) → fs.at ≡ []
      → AreFrames file m fs
  none-wanted other fs is = subst (λ b. AreFramesIf b file m fs) (sym other) is

  pub has-none-wanted : (file.major == 51) ≡ false → (true ≡ true) ↔ HasFrames file m
  has-none-wanted other = (λ _. (no_frames, none-wanted other no_frames refl), λ _. refl)

  module _ (framed : (file.major == 51) ≡ true) where
    -- without code
    pub none-native : m.code ≡ None → (fs : MethodFrames) → fs.at ≡ [] → AreFrames file m fs
    none-native native fs is =
        subst (λ b. AreFramesIf b file m fs) (sym framed)
        (subst (λ o. AreGivenIn file m o fs.at) (sym native) is)

    pub has-none-native : m.code ≡ None → (true ≡ true) ↔ HasFrames file m
    has-none-native native = (λ _. (no_frames, none-native native no_frames refl), λ _. refl)

    -- with code
    module _ (code : CodeAttr) (coded : m.code ≡ Some code) where
      are-given : (fs : MethodFrames) → AreGiven file m code fs.at → AreFrames file m fs
      are-given fs given =
          subst (λ b. AreFramesIf b file m fs) (sym framed)
          (subst (λ o. AreGivenIn file m o fs.at) (sym coded) given)

      given-are : (fs : MethodFrames) → AreFrames file m fs → AreGiven file m code fs.at
      given-are fs are =
          subst (λ o. AreGivenIn file m o fs.at) coded
          (subst (λ b. AreFramesIf b file m fs) framed are)

      pub has-given : (b : Bool) → (b ≡ true) ↔ GivesFrames file m code
          → (b ≡ true) ↔ HasFrames file m
      has-given b gives = (
        λ t.
            let g = gives.0 t in
            let fs : MethodFrames = record { at = g.0 } in
            (fs, are-given fs g.1),
        λ h. gives.1 (h.0.at, given-are h.0 h.1),
      )

      -- what is read are its frames, where it has some
      pub read-are : HasFrames file m → (at : List PlacedFrame)
          → frames_given file m code.attributes ≡ Some at
          → (fs : MethodFrames) → fs.at ≡ at → AreFrames file m fs
      read-are has at read fs is =
          let given = given-are has.0 has.1 in
          let same : has.0.at ≡ fs.at = cc (sym given.given ∙ read) in
          are-given fs (subst (AreGiven file m code) same given)
