-- The shell's tokens, scripts and stops are those of the laws for any table of rules.
use Rattle.std.proofs.Common.{List, [], ◌∷◌, ◌++◌, sym, ap, ◌∙◌}
use Rattle.sh_rules.specs.Grammar.{Parses, leaves_all, Continues, IsWhole, Halt, Blocked, Over}
use Rattle.sh_rules.specs.Reading.{Spelled, StopsBy, IsStop}
use Rattle.sh_rules.specs.Rules.{Rule, Token, shell, script}
use Rattle.sh_token.specs.Places.{Place}
use Rattle.sh_script.specs.Standing.{AllStand, AreAll, AreFirst, NoneGoesOn}
use Rattle.sh_script.specs.TextReader.{text_reader}
use Rattle.sh_script.specs.Scripts.{StopsAt}
use Rattle.sh_script.proofs.Typed.{untyped, are_parses, tokens_are, typed}

pub spelled_of : (ts : List Token) (p q : Place) → AllStand ts p q → Spelled shell text_reader ts p q
spelled_of [] p q h = h
spelled_of (t ∷ ts) p q h = (h.0, h.1, h.2, spelled_of ts h.0 q h.3)

pub stand_of : (ts : List Token) (p q : Place) → Spelled shell text_reader ts p q → AllStand ts p q
stand_of [] p q h = h
stand_of (t ∷ ts) p q h = (h.0, h.1, h.2, stand_of ts h.0 q h.3)

continues_of : (ts : List Token) → AreFirst ts → Continues shell script ts
continues_of ts h = (untyped h.0, h.1, are_parses h.0, tokens_are h.0 ∙ h.2)

first_of_script : (ts : List Token) → Continues shell script ts → AreFirst ts
first_of_script ts h =
    let t = typed h.0 script h.2 in
    (t.0, h.1, sym (tokens_are t.0) ∙ ap (λ (xs : Parses Rule Token). leaves_all xs) t.1 ∙ h.3)

whole_of : (ts : List Token) → AreAll ts → IsWhole shell script ts
whole_of ts h = (untyped h.0, are_parses h.0, tokens_are h.0 ∙ h.1)

all_of_script : (ts : List Token) → IsWhole shell script ts → AreAll ts
all_of_script ts h =
    let t = typed h.0 script h.1 in
    (t.0, sym (tokens_are t.0) ∙ ap (λ (xs : Parses Rule Token). leaves_all xs) t.1 ∙ h.2)

stops_by : (before : List Token) (p : Place) (h : Halt Token) → NoneGoesOn before p h → StopsBy shell text_reader script before p h
stops_by before p Blocked s = λ t q i c. s t q i (first_of_script (before ++ t ∷ []) c)
stops_by before p (Over t) s = (s.0, s.1, continues_of (before ++ t ∷ []) s.2)

none_goes_on : (before : List Token) (p : Place) (h : Halt Token) → StopsBy shell text_reader script before p h → NoneGoesOn before p h
none_goes_on before p Blocked s = λ t q i c. s t q i (continues_of (before ++ t ∷ []) c)
none_goes_on before p (Over t) s = (s.0, s.1, first_of_script (before ++ t ∷ []) s.2)

pub stop_of : (p m : Place) (h : Halt Token) → StopsAt p m h → IsStop shell text_reader script p m h
unfolding StopsAt
stop_of p m h s = (s.0, spelled_of s.0 p m s.1, continues_of s.0 s.2, (λ w. s.3 (all_of_script s.0 w)), stops_by s.0 m h s.4)

pub stops_at_of : (p m : Place) (h : Halt Token) → IsStop shell text_reader script p m h → StopsAt p m h
unfolding StopsAt
stops_at_of p m h s = (s.0, stand_of s.0 p m s.1, first_of_script s.0 s.2, (λ w. s.3 (whole_of s.0 w)), none_goes_on s.0 m h s.4)
