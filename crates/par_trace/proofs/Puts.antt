-- Lines that are put one after the other.
use Rattle.std.proofs.Common.{◌≡◌, ℕ, suc, ◌≤◌, List, [], ◌∷◌, ◌++◌, length, Option, Some, None}
use Rattle.std.proofs.Common.{refl, sym, ap, subst, ◌∙◌, inl, inr, arith}
use Rattle.std.specs.List.{concat}
use Rattle.std.proofs.lemmas.List.{append-nil, append_assoc}
use Rattle.std.proofs.lemmas.List.Folds.{concat-append}
use Rattle.par_io.specs.Causes.{SinkCounts, Rose, raised, raised_by, appended, AppendsFront}
use Rattle.par_event_lines.specs.declared.puts.Untold.{Untold}
use Rattle.par_event_lines.specs.declared.puts.Untold.TheVariants.{Fault, Memory}
use Rattle.par_event_lines.specs.Texts.{Text}
use Rattle.par_event_lines.specs.Telling.{IsUntold, IsCutOff}
use Rattle.par_trace.specs.Puts.{ArePut}

appended-appended : (old : Option Text) (a b : Text)
    → appended (appended old a) b ≡ appended old (a ++ b)
appended-appended None a b = refl
appended-appended (Some bytes) a b = ap Some (append_assoc bytes a b)

length-one_more : {A : Type 0} (xs : List A) (x : A) → length (xs ++ x ∷ []) ≡ suc (length xs)
length-one_more [] x = refl
length-one_more (y ∷ xs) x = ap suc (length-one_more xs x)

concat-one_more : (ls : List Text) (l : Text) → concat (ls ++ l ∷ []) ≡ concat ls ++ l
concat-one_more ls l = concat-append ls (l ∷ []) ∙ ap (λ (t : Text). concat ls ++ t) (append-nil l)

rose_since : (a b c : ℕ) → a ≤ b → Rose b c → Rose a c
rose_since a b c le (inl less) = inl (omega arith)
rose_since a b c le (inr last) = inr last

module _ (old : Option Text) (before : SinkCounts) where
  module _ (ls : List Text) (held : Option Text) (between : SinkCounts)
      (puts : ArePut ls old held before between) where
    -- one line more
    pub put-more : (l : Text) (new : Option Text) (after : SinkCounts)
        → after.puts ≡ raised between.puts → new ≡ appended held l
        → ArePut (ls ++ l ∷ []) old new before after
    put-more l new after counts put = record {
      counted =
          counts ∙ ap raised puts.counted
          ∙ ap (λ n. raised_by n before.puts) (sym (length-one_more ls l));
      held =
          put ∙ ap (λ h. appended h l) puts.held ∙ appended-appended old (concat ls) l
          ∙ ap (appended old) (sym (concat-one_more ls l));
    }

    -- the next line is not put whole
    pub cut-next : (l : Text) (more : List Text) (u : Untold) (new : Option Text)
        (after : SinkCounts) → before.faults ≤ between.faults
        → IsUntold l held new between after u → IsCutOff (ls ++ l ∷ more) old new before after u
    cut-next l more Fault new after le untold = record {
      first = ls;
      line = l;
      rest = more;
      among = refl;
      rose = rose_since before.faults between.faults after.faults le untold.0;
      puts = untold.1 ∙ ap raised puts.counted;
      front = subst (λ (h : Option Text). AppendsFront h new l) puts.held untold.2;
    }
    cut-next l more Memory new after le untold = record {
      first = ls;
      line = l;
      rest = more;
      among = refl;
      puts = untold.0 ∙ puts.counted;
      held = untold.1 ∙ puts.held;
    }

-- what is not put whole is not put whole with more lines behind it
pub cut-longer : (ls more : List Text) (u : Untold) (old new : Option Text)
    (before after : SinkCounts) → IsCutOff ls old new before after u
    → IsCutOff (ls ++ more) old new before after u
cut-longer ls more Fault old new before after cut = record {
  first = cut.first;
  line = cut.line;
  rest = cut.rest ++ more;
  among =
      ap (λ (l : List Text). l ++ more) cut.among
      ∙ append_assoc cut.first (cut.line ∷ cut.rest) more;
  rose = cut.rose;
  puts = cut.puts;
  front = cut.front;
}
cut-longer ls more Memory old new before after cut = record {
  first = cut.first;
  line = cut.line;
  rest = cut.rest ++ more;
  among =
      ap (λ (l : List Text). l ++ more) cut.among
      ∙ append_assoc cut.first (cut.line ∷ cut.rest) more;
  puts = cut.puts;
  held = cut.held;
}
