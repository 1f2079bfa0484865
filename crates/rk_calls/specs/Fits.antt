-- Which answers fit which calls.
use Rattle.std.specs.Prelude.{Bool, true, false, nat_le}
use Rattle.rk_calls.specs.declared.call.Call.{Call}
use Rattle.rk_calls.specs.declared.call.Call.TheVariants as call
use Rattle.rk_calls.specs.declared.answer.Answer.{Answer}
use Rattle.rk_calls.specs.declared.answer.Answer.TheVariants.{Done, Opened, Piped, Content, Stat, Names, Text, Place, Same, Joined, No}

abbrev pub is_launch : Call → Bool
is_launch (call.Launch key map) = true
is_launch call = false

-- A refusal fits each call but a pipe and a launch.

abbrev pub fits_open : Answer → Bool
fits_open Opened = true
fits_open (No errno) = true
fits_open answer = false

abbrev pub fits_content : Answer → Bool
fits_content (Content bytes) = true
fits_content (No errno) = true
fits_content answer = false

-- a mode is at most 0777
abbrev pub fits_stat : Answer → Bool
fits_stat (Stat kind mode empty) = nat_le mode 511
fits_stat (No errno) = true
fits_stat answer = false

abbrev pub fits_names : Answer → Bool
fits_names (Names names) = true
fits_names (No errno) = true
fits_names answer = false

abbrev pub fits_text : Answer → Bool
fits_text (Text text) = true
fits_text (No errno) = true
fits_text answer = false

abbrev pub fits_place : Answer → Bool
fits_place (Place path) = true
fits_place (No errno) = true
fits_place answer = false

abbrev pub fits_same : Answer → Bool
fits_same (Same same) = true
fits_same (No errno) = true
fits_same answer = false

abbrev pub fits_piped : Answer → Bool
fits_piped Piped = true
fits_piped answer = false

abbrev pub fits_joined : Answer → Bool
fits_joined (Joined status) = true
fits_joined answer = false

abbrev pub fits_done : Answer → Bool
fits_done Done = true
fits_done (No errno) = true
fits_done answer = false

-- each call with an answer of its own, and then those that are done
abbrev pub fits : Call → Answer → Bool
fits (call.Open path how) answer = fits_open answer
fits (call.Read r) answer = fits_content answer
fits (call.ReadLine r) answer = fits_content answer
fits (call.Stat path follow) answer = fits_stat answer
fits (call.List path) answer = fits_names answer
fits (call.ReadLink path) answer = fits_text answer
fits (call.Walk path) answer = fits_place answer
fits (call.Same a b) answer = fits_same answer
fits call.Pipe answer = fits_piped answer
fits (call.Launch key map) answer = fits_joined answer
fits call answer = fits_done answer
