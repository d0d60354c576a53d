-- The enums of the code: the number of each variant, which constructor of the specification it stands for, and what the code has where the
-- specification has an option or a refusal.
use Rattle.std.specs.Prelude.{ℕ, Option, Some, None, Result, Ok, Err}
use Rattle.std.proofs.Math.Option as math
use Rattle.model.specs.Numbers as refusal
use Rattle.model.specs.Attributes as attributes
use Rattle.model.specs.Keys as keys
use Rattle.codes.specs.declared.Source.{Source}
use Rattle.codes.specs.declared.Source.TheVariants as source
use Rattle.codes.specs.declared.AtomType.{AtomType}
use Rattle.codes.specs.declared.AtomType.TheVariants as type
use Rattle.codes.specs.declared.Key.{Key}
use Rattle.codes.specs.declared.Key.TheVariants as key
use Rattle.codes.specs.declared.Refusal.{Refusal}
use Rattle.codes.specs.declared.Refusal.TheVariants.{WrongTable, TooLong, WrongFirstLine, Unframed, OutOfOrder, Malformed, OverLimits, Undeclared, WrongSort, Repeated, Full, Circular, OtherKey, NotStanding, BadBlock, WrongNumber, NotHeld, DoesNotFit}

abbrev pub source_number : Source → ℕ
source_number source.User = 1
source_number source.Object = 2
source_number source.Admin = 3
source_number source.Env = 4
source_number source.Connect = 5

abbrev pub source_for : attributes.Source → Source
source_for attributes.Source.user = source.User
source_for attributes.Source.object = source.Object
source_for attributes.Source.admin = source.Admin
source_for attributes.Source.env = source.Env
source_for attributes.Source.connect = source.Connect

abbrev pub type_number : AtomType → ℕ
type_number type.Int = 1
type_number type.Str = 2
type_number type.Bool = 3

abbrev pub type_for : attributes.AtomType → AtomType
type_for attributes.AtomType.int = type.Int
type_for attributes.AtomType.str = type.Str
type_for attributes.AtomType.bool = type.Bool

abbrev pub key_number : Key → ℕ
key_number key.Attr = 1
key_number key.Op = 2
key_number key.Atom = 3
key_number key.Ugroup = 4
key_number key.Ogroup = 5
key_number key.User = 6
key_number key.Object = 7
key_number key.Parent = 8
key_number key.Member = 9
key_number key.Value = 10
key_number key.Rule = 11

abbrev pub key_for : keys.Key → Key
key_for keys.Key.attr = key.Attr
key_for keys.Key.op = key.Op
key_for keys.Key.atom = key.Atom
key_for keys.Key.ugroup = key.Ugroup
key_for keys.Key.ogroup = key.Ogroup
key_for keys.Key.user = key.User
key_for keys.Key.object = key.Object
key_for keys.Key.parent = key.Parent
key_for keys.Key.member = key.Member
key_for keys.Key.value = key.Value
key_for keys.Key.rule = key.Rule

abbrev pub refusal_number : Refusal → ℕ
refusal_number WrongTable = refusal.wrong_table
refusal_number TooLong = refusal.too_long
refusal_number WrongFirstLine = refusal.wrong_first_line
refusal_number Unframed = refusal.unframed
refusal_number OutOfOrder = refusal.out_of_order
refusal_number Malformed = refusal.malformed
refusal_number OverLimits = refusal.over_limits
refusal_number Undeclared = refusal.undeclared
refusal_number WrongSort = refusal.wrong_sort
refusal_number Repeated = refusal.repeated
refusal_number Full = refusal.full
refusal_number Circular = refusal.circular
refusal_number OtherKey = refusal.other_key
refusal_number NotStanding = refusal.not_standing
refusal_number BadBlock = refusal.bad_block
refusal_number WrongNumber = refusal.wrong_number
refusal_number NotHeld = refusal.not_held
refusal_number DoesNotFit = refusal.does_not_fit

-- what something is refused for, 0 where it is not
abbrev pub number_in : {A : Type 0} → Result A Refusal → ℕ
number_in (Ok a) = 0
number_in (Err r) = refusal_number r

-- an option of the specification as the code has it, with what stands for its value
abbrev pub told_by : {A B : Type 0} → (A → B) → math.Option A → Option B
told_by f math.none = None
told_by f (math.some a) = Some (f a)

abbrev pub told : {A : Type 0} → math.Option A → Option A
told math.none = None
told (math.some a) = Some a

-- a number, or k where there is none
abbrev pub number_or : ℕ → Option ℕ → ℕ
number_or k None = k
number_or k (Some n) = n
