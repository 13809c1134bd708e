-- What a sink in memory lets in of the bytes of a put is a front of them.
use Rattle.std.proofs.Common.{◌≡◌, ◌∙◌, [], ◌++◌, ap, sym, append_assoc, List, ℕ, Option, Some}
use Rattle.std.proofs.Common.{None, drop, take-append-drop, append-nil}
use Rattle.par_io.specs.MemSink.{let_in, put_keeps, next_put, room_left, taken}
use Rattle.par_io.specs.declared.mem_sink.MemSink.{MemSink}

-- the bytes behind those that a setting lets in
abbrev pub kept_out : Option ℕ → List ℕ → List ℕ
kept_out None bytes = []
kept_out (Some keep) bytes = drop keep bytes

pub let_in-append-kept_out : (setting : Option ℕ) (bytes : List ℕ)
    → let_in setting bytes ++ kept_out setting bytes ≡ bytes
let_in-append-kept_out None bytes = append-nil bytes
let_in-append-kept_out (Some keep) bytes = take-append-drop keep bytes

-- the bytes behind those that the next put lets in
abbrev pub left_out : MemSink → List ℕ → List ℕ
left_out s bytes =
    let setting = put_keeps s (next_put s) in
    drop (room_left s) (let_in setting bytes) ++ kept_out setting bytes

pub taken-append-left_out : (s : MemSink) (bytes : List ℕ)
    → taken s bytes ++ left_out s bytes ≡ bytes
taken-append-left_out s bytes =
    let setting : Option ℕ = put_keeps s (next_put s) in
    sym (append_assoc (taken s bytes) (drop (room_left s) (let_in setting bytes))
    (kept_out setting bytes))
    ∙ ap (λ front. front ++ kept_out setting bytes)
    (take-append-drop (room_left s) (let_in setting bytes))
    ∙ let_in-append-kept_out setting bytes
