-- What the reader of scripts has of them.
use Rattle.std.specs.Prelude.{◌≡◌, List, option_map}
use Rattle.rk_base.specs.Text.{Text}
use Rattle.ut_sed.specs.declared.reader.Addresses.{Addresses as AddressesHad}
use Rattle.ut_sed.specs.declared.reader.ReadStep.{ReadStep as StepHad}
use Rattle.ut_sed.specs.declared.reader.ReadStep.TheVariants.{Wrong, Ends, Goes}
use Rattle.ut_sed.specs.Commands.{CommandValue, address_of}
use Rattle.ut_sed.specs.Scripts.{Addresses, ReadStep, wrong, ends, goes}

abbrev pub addresses_of : AddressesHad → Addresses
addresses_of a = record { first = option_map address_of a.first; second = option_map address_of a.second }

-- with these commands so far, and this rest
abbrev pub IsStep : ReadStep → StepHad → List CommandValue → Text → Type 0
IsStep s Wrong commands rest = s ≡ wrong
IsStep s Ends commands rest = s ≡ ends commands
IsStep s Goes commands rest = s ≡ goes commands rest
