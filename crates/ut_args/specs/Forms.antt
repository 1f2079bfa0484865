-- The forms of the arguments of options.
use Rattle.std.specs.Prelude.{ℕ, [], ◌∷◌, length, nat_le, nat_lt, Bool, true, false, ◌==◌, ◌&&◌, ◌||◌, not, take, drop, count_by, if◌then◌else◌}
use Rattle.std.specs.List.{list_all, before_first, after_first, slice_split, position_or_len}
use Rattle.rk_base.specs.Canonical.{is_empty}
use Rattle.rk_base.specs.Text.{Text}
use Rattle.ut_args.specs.declared.form.Form.{Form}
use Rattle.ut_args.specs.declared.form.Form.TheVariants as forms
use Rattle.ut_args.specs.declared.form.Opt.{Opt}

abbrev pub is_digit : ℕ → Bool
is_digit b = nat_le 48 b && nat_le b 57

abbrev pub is_octal : ℕ → Bool
is_octal b = nat_le 48 b && nat_le b 55

-- one to ten digits
abbrev pub is_number : Text → Bool
is_number text = (nat_lt 0 (length text) && nat_le (length text) 10) && list_all is_digit text

-- an end of a range, which is left out or a number
abbrev pub is_end : Text → Bool
is_end text = is_empty text || is_number text

-- `N`, `N-M`, `N-` or `-M`: one end at least is a number
abbrev pub is_range : Text → Bool
is_range text =
    (not (is_empty (before_first (λ b. b == 45) text) && is_empty (after_first (λ b. b == 45) text)) && is_end (before_first (λ b. b == 45) text)) && is_end (after_first (λ b. b == 45) text)

-- ranges with commas between them
abbrev pub is_ranges : Text → Bool
is_ranges text = list_all is_range (slice_split (λ b. b == 44) text)

-- one to three octal digits, or four where the first is `0`
abbrev pub is_mode : Text → Bool
is_mode [] = false
is_mode (b ∷ bs) = list_all is_octal (b ∷ bs) && (nat_le (length bs) 2 || (b == 48 && length bs == 3))

-- what stands after a sign, where there is one
abbrev pub unsigned : Text → Text
unsigned [] = []
unsigned (b ∷ bs) = if b == 43 || b == 45 then bs else b ∷ bs

-- a number, before which a `+` or a `-` may stand
abbrev pub is_signed : Text → Bool
is_signed text = is_number (unsigned text)

-- the number of a field, which isn't 0
abbrev pub is_field : Text → Bool
is_field text = is_number text && not (list_all (λ b. b == 48) text)

-- a field, or two with a comma between them
abbrev pub are_fields : Text → Bool
are_fields text = nat_le (count_by (λ b. b == 44) text) 1 && list_all is_field (slice_split (λ b. b == 44) text)

-- `n` or `r`
abbrev pub is_order : ℕ → Bool
is_order b = b == 110 || b == 114

-- fields, and letters after them
abbrev pub is_key : Text → Bool
is_key text = are_fields (take (position_or_len is_order text) text) && list_all is_order (drop (position_or_len is_order text) text)

abbrev pub is_form : Form → Text → Bool
is_form forms.Alone text = false
is_form forms.Text text = true
is_form forms.Number text = is_number text
is_form forms.Ranges text = is_ranges text
is_form forms.Byte text = length text == 1
is_form forms.Mode text = is_mode text
is_form forms.Signed text = is_signed text
is_form forms.Key text = is_key text

abbrev pub is_of : ℕ → Opt → Bool
is_of letter o = o.letter == letter
