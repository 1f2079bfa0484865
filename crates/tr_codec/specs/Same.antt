-- Whether two steps are one.
use Rattle.std.specs.Prelude.{ℕ, Bool, true, false, ◌&&◌, ◌==◌}
use Rattle.std.specs.Cmp.Lexicographic.{pointwise}
use Rattle.rk_base.specs.Text.{same_text}
use Rattle.rk_calls.specs.Keys.{same_key}
use Rattle.rk_calls.specs.declared.call.Call.{Call}
use Rattle.rk_calls.specs.declared.call.Call.TheVariants as call
use Rattle.rk_calls.specs.declared.answer.Answer.{Answer}
use Rattle.rk_calls.specs.declared.answer.Answer.TheVariants as answer
use Rattle.tr_record.specs.declared.steps.Step.{Step}
use Rattle.tr_codec.specs.Pieces.{how_code, flag_code, kind_code, errno_code}

-- a descriptor, and what it stands for
abbrev pub same_pair : ℕ × ℕ → ℕ × ℕ → Bool
same_pair a b = (a.0 == b.0) && (a.1 == b.1)

abbrev pub same_call : Call → Call → Bool
same_call (call.Open p h) (call.Open q k) = same_text p q && (how_code h == how_code k)
same_call (call.Read r) (call.Read s) = r == s
same_call (call.ReadLine r) (call.ReadLine s) = r == s
same_call (call.Write r p) (call.Write s q) = (r == s) && same_text p q
same_call (call.Stat p f) (call.Stat q g) = same_text p q && (flag_code f == flag_code g)
same_call (call.List p) (call.List q) = same_text p q
same_call (call.ReadLink p) (call.ReadLink q) = same_text p q
same_call (call.Walk p) (call.Walk q) = same_text p q
same_call (call.Same p o) (call.Same q t) = same_text p q && same_text o t
same_call (call.Mkdir p m) (call.Mkdir q n) = same_text p q && (m == n)
same_call (call.Rmdir p) (call.Rmdir q) = same_text p q
same_call (call.Unlink p) (call.Unlink q) = same_text p q
same_call (call.Rename p o) (call.Rename q t) = same_text p q && same_text o t
same_call (call.Symlink p o) (call.Symlink q t) = same_text p q && same_text o t
same_call (call.Link p o) (call.Link q t) = same_text p q && same_text o t
same_call (call.Chmod p m) (call.Chmod q n) = same_text p q && (m == n)
same_call call.Pipe call.Pipe = true
same_call (call.Launch p m) (call.Launch q n) = same_key p q && pointwise same_pair m n
same_call _ _ = false

abbrev pub same_answer : Answer → Answer → Bool
same_answer answer.Go answer.Go = true
same_answer answer.Done answer.Done = true
same_answer answer.Opened answer.Opened = true
same_answer answer.Piped answer.Piped = true
same_answer (answer.Content p) (answer.Content q) = same_text p q
same_answer (answer.Stat k m e) (answer.Stat l n f) = (kind_code k == kind_code l) && ((m == n) && (flag_code e == flag_code f))
same_answer (answer.Names p) (answer.Names q) = pointwise same_text p q
same_answer (answer.Text p) (answer.Text q) = same_text p q
same_answer (answer.Place p) (answer.Place q) = same_text p q
same_answer (answer.Same s) (answer.Same t) = flag_code s == flag_code t
same_answer (answer.Joined s) (answer.Joined t) = s == t
same_answer (answer.No e) (answer.No f) = errno_code e == errno_code f
same_answer _ _ = false

unfoldable pub same_step : Step → Step → Bool
same_step a b = (a.cost == b.cost) && (same_call a.call b.call && same_answer a.answer b.answer)
