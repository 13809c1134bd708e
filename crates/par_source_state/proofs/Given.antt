-- What the lines give to a channel is found by its place, and by its numbers.
use Rattle.std.proofs.Common.{◌≡◌, ℕ, ℤ, Bool, ◌&&◌}
use Rattle.std.proofs.Common.{List, [], Option, Some, None, refl, ap, sym, ◌∙◌}
use Rattle.std.specs.Prelude.{slice_get}
use Rattle.std.specs.Option.{option_map}
use Rattle.std.specs.Borrow.{Bor}
use Rattle.std.specs.List.{position}
use Rattle.std.specs.Str.{bytes_eq}
use Rattle.std.proofs.lemmas.Option.{slice_get-map}
use Rattle.par_index.proofs.Places.{position-map}
use Rattle.par_typed.specs.declared.table.ChannelInfo.{ChannelInfo}
use Rattle.par_typed.specs.declared.table.ClassInfo.{ClassInfo}
use Rattle.par_values.specs.Areas.{list_or_none}
use Rattle.par_values.specs.declared.inputs.ChannelInput.{ChannelInput}
use Rattle.par_secrecy.specs.Subject.{given, numbers_of, numbers_at}
use Rattle.par_secrecy.proofs.Carried.{bytes_swapped}
use Rattle.par_secrecy.proofs.Given.{given_first}
use Rattle.par_run_laws.specs.Names.{Name, channel_of, channel_member}
use Rattle.par_run_laws.specs.Source.{given_to}
use Rattle.par_source_state.specs.Lined.{Names, same_names, is_line, row_of, rows_of}
use Rattle.par_source_state.specs.Lined.{row_shown, rows_shown, named, names_of, names_shown}
use Rattle.par_source_state.specs.Lined.{shown_of}

module _ (class channel : Name) where
  either_way : (line : ChannelInput) → is_line class channel line
      ≡ (bytes_eq line.class class && bytes_eq line.channel channel)
  either_way line =
      ap (λ b. b && bytes_eq channel line.channel) (bytes_swapped class line.class)
      ∙ ap (λ b. bytes_eq line.class class && b) (bytes_swapped channel line.channel)

  at_first : (lines : List ChannelInput) (place : Option ℕ)
      → place ≡ position (is_line class channel) lines
      → given lines class channel ≡ numbers_at place lines
  at_first lines place is =
      given_first class channel (is_line class channel) either_way lines
      ∙ ap (λ (place : Option ℕ). numbers_at place lines) (sym is)

  pub no_line : (lines : List ChannelInput) → None ≡ position (is_line class channel) lines
      → given lines class channel ≡ []
  no_line lines is = at_first lines None is

  pub line_there : (lines : List ChannelInput) (k : ℕ) → Some k
      ≡ position (is_line class channel) lines
      → given lines class channel ≡ numbers_of (slice_get lines k)
  line_there lines k is = at_first lines (Some k) is

module _ (lines : List ChannelInput) where
  in_row : (class : Name) (channels : List ChannelInfo) (k : ℕ)
      → list_or_none (slice_get (row_of lines class channels) k)
      ≡ given_to lines (channel_member class (slice_get channels k))
  in_row class channels k =
      ap list_or_none (slice_get-map (λ channel. given lines class channel.name) channels k)
      ∙ at (slice_get channels k)
    where
      at : (o : Option ChannelInfo) → list_or_none
          (option_map (λ channel. given lines class channel.name) o)
          ≡ given_to lines (channel_member class o)
      at None = refl
      at (Some channel) = refl

  -- what a channel is given stands in its row
  pub in_rows : (classes : List ClassInfo) (c k : ℕ)
      → list_or_none (slice_get (list_or_none (slice_get (rows_of lines classes) c)) k)
      ≡ given_to lines (channel_of (slice_get classes c) k)
  in_rows classes c k =
      ap (λ row. list_or_none (slice_get (list_or_none row) k))
      (slice_get-map (λ class. row_of lines class.name class.channels) classes c)
      ∙ at (slice_get classes c)
    where
      at : (o : Option ClassInfo)
          → list_or_none (slice_get (list_or_none
          (option_map (λ class. row_of lines class.name class.channels) o)) k)
          ≡ given_to lines (channel_of o k)
      at None = refl
      at (Some class) = in_row class.name class.channels k

  -- a row that is there
  pub row_there : (rows : List (List (Bor (List ℤ)))) (classes : List ClassInfo) (c k : ℕ)
      (row : List (Bor (List ℤ)))
      → rows_shown rows ≡ rows_of lines classes → Some row ≡ slice_get rows c
      → list_or_none (slice_get (row_shown row) k)
      ≡ given_to lines (channel_of (slice_get classes c) k)
  row_there rows classes c k row is found =
      ap (λ o. list_or_none (slice_get (list_or_none o) k))
      (ap (option_map row_shown) found ∙ sym (slice_get-map row_shown rows c)
      ∙ ap (λ rows. slice_get rows c) is)
      ∙ in_rows classes c k

  pub no_row : (rows : List (List (Bor (List ℤ)))) (classes : List ClassInfo) (c k : ℕ)
      → rows_shown rows ≡ rows_of lines classes → None ≡ slice_get rows c
      → [] ≡ given_to lines (channel_of (slice_get classes c) k)
  no_row rows classes c k is none =
      ap (λ o. list_or_none (slice_get (list_or_none o) k))
      (ap (option_map row_shown) none ∙ sym (slice_get-map row_shown rows c)
      ∙ ap (λ rows. slice_get rows c) is)
      ∙ in_rows classes c k

-- the first place of names among those of lines
pub place_of_names : (names : Names) (keys : List Names) (lines : List ChannelInput)
    → names_shown keys ≡ named lines
    → position (same_names names) keys ≡ position (is_line names.0.now names.1.now) lines
place_of_names names keys lines same =
    let asks : Name × Name → Bool = λ n. bytes_eq names.0.now n.0 && bytes_eq names.1.now n.1 in
    sym (position-map asks shown_of keys)
    ∙ ap (position asks) same
    ∙ position-map asks names_of lines
