-- Frames that fit the code of an initializer.
use Rattle.std.proofs.Common.{◌≡◌, ℕ, Bool, true, false, List, [], ◌∷◌, Some, None, refl}
use Rattle.std.proofs.Common.{arith, codes}
use Rattle.std.proofs.lemmas.List.Elements.{All-nil, All-from_recursion}
use Rattle.par_instr.specs.declared.instr.Instr.TheVariants.{AloadShort}
use Rattle.par_instr.specs.declared.instr.Instr.TheVariants as instr
use Rattle.par_pool.specs.Spelling.{IsText}
use Rattle.par_typed.specs.declared.table.ClassInfo.{ClassInfo}
use Rattle.par_class.specs.declared.file.ClassFile.{ClassFile}
use Rattle.par_values.specs.declared.kind.Kind.TheVariants as kind
use Rattle.par_values.specs.Areas.{Name}
use Rattle.par_link.specs.Builtins.{builtin_method}
use Rattle.par_link.specs.Named.{method_of}
use Rattle.par_code_form.specs.declared.item.Item.{Item}
use Rattle.par_code_form.specs.declared.item.Item.TheVariants.{Op}
use Rattle.par_code_form.specs.Code.{initializer, initializer_code}
use Rattle.par_code_form.specs.PoolNames.{full_name}
use Rattle.par_code_form.specs.Placeable.{FitsItem, HasTarget, FitsHandler, IsPlaceable}
use Rattle.par_code_form.specs.PlaceableFrames.{FitsFrame, AreFramesPlaceable}
use Rattle.par_file_run_laws.specs.par_compile_laws.Members.{above, initializer_of}
use Rattle.par_kinds.specs.declared.frame.VKind.TheVariants.{Object as AnObject}
use Rattle.par_kinds.specs.Kinds.{is_in, accepts, exceptional}
use Rattle.par_kinds.specs.Acts.{Act, Also, AlsoFits, Gives, Exceptional}
use Rattle.par_kinds.specs.Acts.{Onward}
use Rattle.par_kinds.specs.Acts.{left_by}
use Rattle.par_kinds.specs.Acts as also
use Rattle.par_placed_fit_laws.specs.Walks.{Sign, lands, Walks}
use Rattle.par_placed_fit_laws.specs.Signs.{framed, no_sign}
use Rattle.par_placed_fit_laws.specs.Fits.{Fits}
use Rattle.par_placed_fit_laws.specs.Tells.{acting}
use Rattle.par_verified_file_laws.proofs.Steps.{Within, acts, loads, ends}
use Rattle.par_placed_fit_laws.specs.Acts.{item_act}

-- ---- its code can be placed

init_text : IsText (codes "<init>")
init_text = record { short = omega arith; plain = refl }

init_type : IsText (codes "()V")
init_type = record { short = omega arith; plain = refl }

above_text : (exception : Bool) → IsText (full_name (above exception))
above_text true = record { short = omega arith; plain = refl }
above_text false = record { short = omega arith; plain = refl }

module _ (class : ClassInfo) where
  abbrev items : List Item
  items = initializer_code (above class.exception)

  pub placeable : IsPlaceable (initializer_of class)
  placeable = record {
    items =
        All-from_recursion FitsItem items (
          (refl, refl),
          ((refl, above_text class.exception, init_text, init_type), ((refl, refl), tt)),
        );
    targets = All-from_recursion (HasTarget items) items (tt, (tt, (tt, tt)));
    handlers = All-nil (FitsHandler items);
    instruction = (0, record { item = Op (AloadShort 0); stands = refl; is = refl });
    short = omega arith;
  }

  pub frames_placeable : AreFramesPlaceable (initializer_of class)
  frames_placeable =
      record { fit = All-nil (FitsFrame (initializer_of class)); apart = λ l. omega arith }

-- ---- what the initializer above takes

-- that of all exceptions takes those alone
abbrev asked_above : Bool → Also
asked_above true = Exceptional
asked_above false = also.Nothing

abbrev called_above : Bool → Act
called_above exception = acting (kind.AnyObject ∷ []) (asked_above exception) (Gives []) Onward

module _ (files : List ClassFile) where
  abbrev act : Item → Act
  act = item_act files None

  above_act : (exception : Bool) → act (initializer (above exception)) ≡ called_above exception
  unfolding method_of builtin_method
  above_act true = refl
  above_act false = refl

  module _ (exc : List Name) (name : Name) where
    above_asks : (exception : Bool) → (exception ≡ true → is_in exc name ≡ true)
        → AlsoFits exc (asked_above exception) (framed (AnObject name ∷ []) (AnObject name ∷ []))
    unfolding exceptional
    above_asks true h = h refl
    above_asks false h = tt

    -- nothing is said of a label
    abbrev pub nowhere : ℕ → Sign
    nowhere l = no_sign

    within : Within exc act nowhere 1 1 (AnObject name ∷ []) []
    within = record { size = refl; kept = tt }

    returns : Walks exc act nowhere 1 1 (Op instr.Return ∷ []) []
        (Some (framed (AnObject name ∷ []) []))
    unfolding Walks
    returns =
        ends exc act nowhere 1 1 [] (AnObject name ∷ []) within (Op instr.Return) [] [] []
        also.Nothing refl refl (omega arith) tt tt refl

    calls : (exception : Bool) → (exception ≡ true → is_in exc name ≡ true)
        → Walks exc act nowhere 1 1 (initializer_code (above exception)) []
        (Some (framed (AnObject name ∷ []) []))
    unfolding left_by accepts
    calls exception h =
        let rest = initializer (above exception) ∷ Op instr.Return ∷ [] in
        loads exc act nowhere 1 1 [] (AnObject name ∷ []) within (Op (AloadShort 0)) rest [] 0
        kind.AnyObject (AnObject name) refl refl (omega arith) refl refl
        (acts exc act nowhere 1 1 (initializer (above exception)) (Op instr.Return ∷ []) []
        (framed (AnObject name ∷ []) (AnObject name ∷ [])) (called_above exception)
        (above_act exception) refl within (omega arith)
        (record { right = refl; takes = (refl, tt); also = above_asks exception h }) tt returns)

    pub initializer_fits : (class : ClassInfo)
        → (class.exception ≡ true → is_in exc name ≡ true)
        → Fits exc act nowhere (initializer_of class) (framed (AnObject name ∷ []) [])
    unfolding lands
    initializer_fits class h = record {
      walks = calls class.exception h;
      begins = refl;
      handled = tt;
      framed = tt;
      unframed = λ l none. refl;
    }
