-- The line that tells of a made workload.
use Rattle.std.specs.Prelude.{ℕ, ◌+◌, ◌++◌, codes, Option, Some, None}
use Rattle.std.specs.Fmt.{decimal}
use Rattle.hex.specs.Hex.{encode_lower}
use Rattle.rk_base.specs.Text.{Text}

-- How many builds ended, and sums over these: the commands launched, those that ran, and the turns that those paid.
pub record Sums : Type 0 where
  pub builds : ℕ
  pub launched : ℕ
  pub ran : ℕ
  pub turns : ℕ

abbrev pub no_figures : Sums
no_figures = record { builds = 0; launched = 0; ran = 0; turns = 0 }

-- one more build ended
abbrev pub added : ℕ → ℕ → ℕ → Sums → Sums
added launched ran turns it = record { builds = it.builds + 1; launched = it.launched + launched; ran = it.ran + ran; turns = it.turns + turns }

-- in hexadecimal, or `none`
unfoldable pub digest_text : Option Text → Text
digest_text None = codes "none"
digest_text (Some digest) = encode_lower digest

-- `: builds B, launched L, ran R, turns T`
unfoldable pub figures_text : Sums → Text
figures_text it =
    codes ": builds " ++ (decimal it.builds ++ (codes ", launched " ++ (decimal it.launched ++ (codes ", ran " ++ (decimal it.ran ++ (codes ", turns " ++ decimal it.turns))))))

-- `gen SEED: builds B, launched L, ran R, turns T, digest D`
unfoldable pub summary : ℕ → Sums → Option Text → Text
summary seed it digest = codes "gen " ++ (decimal seed ++ (figures_text it ++ (codes ", digest " ++ (digest_text digest ++ codes "\n"))))
