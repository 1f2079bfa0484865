-- The test of answers tells whether two are one.
use Rattle.std.proofs.Common.{◌≡◌, ◌≢◌, ◌↔◌, ℕ, Bool, true, false, ◌&&◌, eqb, if◌then◌else◌, IsTrue, Decides, [], refl, sym, ◌∙◌, ap, arith}
use Rattle.std.specs.Cmp.{IsEquivalence, decided}
use Rattle.std.specs.Bool.{one_answer}
use Rattle.std.specs.Hash as fed
use Rattle.std.specs.List.{flat_map}
use Rattle.std.specs.Cmp.Lexicographic.{bytes_decides, pointwise_decides}
use Rattle.std.proofs.lemmas.Bool.{eqb-true}
use Rattle.rk_base.specs.declared.errno.Errno.{Errno}
use Rattle.rk_base.specs.declared.errno.Errno.TheVariants.{NoEntry, NotDir, IsDir, Exists, Denied, Loops, NotEmpty, BadRef, Invalid}
use Rattle.rk_base.specs.declared.file_type.FileType.{FileType}
use Rattle.rk_base.specs.declared.file_type.FileType.TheVariants.{File, Dir, Link}
use Rattle.rk_calls.specs.declared.answer.Answer.{Answer}
use Rattle.rk_calls.specs.declared.answer.Answer.TheVariants.{Go, Done, Opened, Piped, Content, Stat, Names, Text, Place, Same, Joined, No}
use Rattle.tr_matching.specs.Answers.{number_of, same_flag, same_kind, same_answer}

-- the refusal of a number
abbrev errno_of : ℕ → Errno
errno_of n =
    if eqb n 0 then NoEntry
    else if eqb n 1 then NotDir
    else if eqb n 2 then IsDir
    else if eqb n 3 then Exists
    else if eqb n 4 then Denied
    else if eqb n 5 then Loops
    else if eqb n 6 then NotEmpty
    else if eqb n 7 then BadRef else Invalid

numbered : (e : Errno) → errno_of (number_of e) ≡ e
numbered NoEntry = refl
numbered NotDir = refl
numbered IsDir = refl
numbered Exists = refl
numbered Denied = refl
numbered Loops = refl
numbered NotEmpty = refl
numbered BadRef = refl
numbered Invalid = refl

same-errno : (e f : Errno) → number_of e ≡ number_of f → e ≡ f
same-errno e f h = sym (numbered e) ∙ ap errno_of h ∙ numbered f

eqb-itself : (n : ℕ) → eqb n n ≡ true
eqb-itself n = grind arith

same-flag : (a b : Bool) → same_flag a b ≡ true → a ≡ b
same-flag true true e = refl
same-flag true false e = cc
same-flag false true e = cc
same-flag false false e = refl

flag-itself : (a : Bool) → same_flag a a ≡ true
flag-itself true = refl
flag-itself false = refl

same-kind : (a b : FileType) → same_kind a b ≡ true → a ≡ b
same-kind File File e = refl
same-kind Dir Dir e = refl
same-kind Link Link e = refl
same-kind a b e = cc

kind-itself : (a : FileType) → same_kind a a ≡ true
kind-itself File = refl
kind-itself Dir = refl
kind-itself Link = refl

both : (a b : Bool) → (a && b) ≡ true → (a ≡ true) × (b ≡ true)
both true b h = (refl, h)
both false b h = cc

same-stat : (k l : FileType) (m n : ℕ) (a b : Bool) → (same_kind k l && (eqb m n && same_flag a b)) ≡ true → Stat k m a ≡ Stat l n b
same-stat k l m n a b h =
    let x = both (same_kind k l) (eqb m n && same_flag a b) h in
    let y = both (eqb m n) (same_flag a b) x.1 in
    let ek = same-kind k l x.0 in
    let em = eqb-true m n y.0 in
    let ea = same-flag a b y.1 in
    ap (λ k. Stat k m a) ek ∙ ap (λ m. Stat l m a) em ∙ ap (Stat l n) ea

stat-itself : (k : FileType) (m : ℕ) (a : Bool) → (same_kind k k && (eqb m m && same_flag a a)) ≡ true
stat-itself k m a = rw (kind-itself k, eqb-itself m) (flag-itself a)

pub same-answer : (a b : Answer) → same_answer a b ≡ true → a ≡ b
same-answer Go Go e = refl
same-answer Done Done e = refl
same-answer Opened Opened e = refl
same-answer Piped Piped e = refl
same-answer (Content x) (Content y) e = ap Content ((bytes_decides x y).0 e)
same-answer (Stat k m a) (Stat l n b) e = same-stat k l m n a b e
same-answer (Names x) (Names y) e = ap Names ((pointwise_decides bytes_decides x y).0 e)
same-answer (Text x) (Text y) e = ap Text ((bytes_decides x y).0 e)
same-answer (Place x) (Place y) e = ap Place ((bytes_decides x y).0 e)
same-answer (Same x) (Same y) e = ap Same (same-flag x y e)
same-answer (Joined s) (Joined t) e = ap Joined (eqb-true s t e)
same-answer (No x) (No y) e = ap No (same-errno x y (eqb-true (number_of x) (number_of y) e))
same-answer a b e = cc

pub same-itself : (a : Answer) → same_answer a a ≡ true
same-itself Go = refl
same-itself Done = refl
same-itself Opened = refl
same-itself Piped = refl
same-itself (Content x) = (bytes_decides x x).1 refl
same-itself (Stat k m a) = stat-itself k m a
same-itself (Names x) = (pointwise_decides bytes_decides x x).1 refl
same-itself (Text x) = (bytes_decides x x).1 refl
same-itself (Place x) = (bytes_decides x x).1 refl
same-itself (Same x) = flag-itself x
same-itself (Joined s) = eqb-itself s
same-itself (No x) = eqb-itself (number_of x)

other-by : (a b : Answer) (t : Bool) → same_answer a b ≡ t → a ≢ b → t ≡ false
other-by a b true e h = absurd (h (same-answer a b e))
other-by a b false e h = refl

pub other-answer : (a b : Answer) → a ≢ b → same_answer a b ≡ false
other-answer a b h = other-by a b (same_answer a b) refl h

-- ---- answers as keys

answers_decide : (a b : Answer) → Decides (same_answer a b) (a ≡ b)
answers_decide a b = (same-answer a b, λ e. ap (same_answer a) (sym e) ∙ same-itself a)

pub answers_equiv : IsEquivalence same_answer
answers_equiv = decided same_answer answers_decide

-- a test that tells whether two answers are one gives the same answer
pub same_by : (t : Bool) (a b : Answer) → (IsTrue t ↔ (a ≡ b)) → t ≡ same_answer a b
same_by t a b h = one_answer t (same_answer a b) h (answers_decide a b)

-- what is hashed of an answer: its bytes, or its number
abbrev pub hashed : Answer → fed.HashWrites
hashed (Content bytes) = fed.slice fed.u8 bytes
hashed (Text text) = fed.slice fed.u8 text
hashed (Place path) = fed.slice fed.u8 path
hashed (Names names) = flat_map (fed.slice fed.u8) names
hashed (Stat kind mode empty) = fed.u16 mode
hashed (Joined status) = fed.u8 status
hashed Go = []
hashed Done = []
hashed Opened = []
hashed Piped = []
hashed (Same same) = []
hashed (No errno) = []

pub hashed-alike : (a b : Answer) → same_answer a b ≡ true → hashed a ≡ hashed b
hashed-alike a b e = ap hashed (same-answer a b e)
