-- The words of the options and the commands.
use Rattle.std.specs.Prelude.{◌≡◌, ℕ, List, ◌⊎◌, Bool, true, false, codes}
use Rattle.std.specs.Str.{bytes_eq}
use Rattle.rpki_program.specs.declared.verify.request.CommandName.{CommandName}
use Rattle.rpki_program.specs.declared.verify.request.CommandName.TheVariants as commands
use Rattle.rpki_program.specs.declared.verify.options.OptionName.{OptionName}
use Rattle.rpki_program.specs.declared.verify.options.OptionName.TheVariants.{At, Json, Relaxed}
use Rattle.rpki_program.specs.declared.verify.options.OptionName.TheVariants.{Registered, Wide, Kind}
use Rattle.rpki_program.specs.declared.verify.options.OptionName.TheVariants.{Ta, Tal, Ca, Crl}
use Rattle.rpki_program.specs.declared.verify.options.OptionName.TheVariants.{Format, Long, Slurm}
use Rattle.rpki_program.specs.declared.verify.options.OptionName.TheVariants.{Limit, MaxFile}
use Rattle.rpki_program.specs.declared.verify.options.OptionName.TheVariants.{Verbose, Help}

-- the word of each option
abbrev pub option_word : OptionName → List ℕ
option_word At = codes "--at"
option_word Json = codes "--json"
option_word Relaxed = codes "--relaxed"
option_word Registered = codes "--registered"
option_word Wide = codes "--wide"
option_word Kind = codes "--kind"
option_word Ta = codes "--ta"
option_word Tal = codes "--tal"
option_word Ca = codes "--ca"
option_word Crl = codes "--crl"
option_word Format = codes "--format"
option_word Long = codes "--long"
option_word Slurm = codes "--slurm"
option_word Limit = codes "--limit"
option_word MaxFile = codes "--max-file"
option_word Verbose = codes "-v"
option_word Help = codes "--help"

-- The word is that of the option. The one that asks for help has a second word.
abbrev pub IsWordOf : List ℕ → OptionName → Type 0
IsWordOf word Help = (word ≡ option_word Help) ⊎ (word ≡ codes "-h")
IsWordOf word n = word ≡ option_word n

-- whether an option takes a value: the others are flags
abbrev pub takes_value : OptionName → Bool
takes_value Json = false
takes_value Relaxed = false
takes_value Registered = false
takes_value Wide = false
takes_value Long = false
takes_value Verbose = false
takes_value Help = false
takes_value n = true

-- whether an option asks for help
abbrev pub is_help : OptionName → Bool
is_help Help = true
is_help n = false

-- whether two options are the same, by their words
unfoldable pub is_same : OptionName → OptionName → Bool
is_same m n = bytes_eq (option_word m) (option_word n)

-- the word of each command
abbrev pub command_word : CommandName → List ℕ
command_word commands.Check = codes "check"
command_word commands.Files = codes "files"
command_word commands.Rta = codes "rta"
command_word commands.Show = codes "show"
command_word commands.Verdicts = codes "verdicts"
command_word commands.Payloads = codes "payloads"
command_word commands.Explain = codes "explain"

-- whether a command takes an option
abbrev pub takes : CommandName → OptionName → Bool
takes commands.Check At = true
takes commands.Check Json = true
takes commands.Check Relaxed = true
takes commands.Check Registered = true
takes commands.Check Wide = true
takes commands.Check Kind = true
takes commands.Check Ta = true
takes commands.Check Tal = true
takes commands.Check Ca = true
takes commands.Check Crl = true
takes commands.Check n = is_help n
takes commands.Files At = true
takes commands.Files Json = true
takes commands.Files Relaxed = true
takes commands.Files Registered = true
takes commands.Files Wide = true
takes commands.Files Ta = true
takes commands.Files Tal = true
takes commands.Files Ca = true
takes commands.Files Crl = true
takes commands.Files n = is_help n
takes commands.Rta At = true
takes commands.Rta n = is_help n
takes commands.Show Json = true
takes commands.Show Relaxed = true
takes commands.Show Registered = true
takes commands.Show Wide = true
takes commands.Show Kind = true
takes commands.Show n = is_help n
takes commands.Verdicts Relaxed = true
takes commands.Verdicts Registered = true
takes commands.Verdicts Wide = true
takes commands.Verdicts Ta = true
takes commands.Verdicts Ca = true
takes commands.Verdicts n = is_help n
takes commands.Payloads At = true
takes commands.Payloads Wide = true
takes commands.Payloads Format = true
takes commands.Payloads Long = true
takes commands.Payloads Slurm = true
takes commands.Payloads Limit = true
takes commands.Payloads MaxFile = true
takes commands.Payloads Verbose = true
takes commands.Payloads n = is_help n
takes commands.Explain At = true
takes commands.Explain n = is_help n
