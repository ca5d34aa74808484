-- What a byte is, by the service characters and whether the byte before it releases it.
use Rattle.std.specs.Prelude.{ℕ, Bool, true, false, not, ◌&&◌, ◌||◌, ◌==◌, if◌then◌else◌}
use Rattle.edi_syntax.specs.{Characters.{is_data_byte, is_release}, declared.characters.Service.Service, declared.token.Token.Token}
use Rattle.edi_syntax.specs.declared.token.Token.TheVariants.{Data, Release, Component, Element, Terminator, Invalid}

abbrev pub is_service : Service → ℕ → Bool
is_service s b = b == s.component || b == s.element || b == s.terminator || is_release s.release b

-- a byte that stands for itself
abbrev pub is_plain : Service → ℕ → Bool
is_plain s b = is_data_byte b && not (is_service s b)

-- a byte that may stand after the release character
abbrev pub may_be_released : Service → ℕ → Bool
may_be_released s b = is_data_byte b || is_service s b

unfoldable pub token_of : Service → Bool → ℕ → Token
token_of s true b = if may_be_released s b then Data else Invalid
token_of s false b =
    if is_release s.release b then Release
    else if b == s.component then Component
    else if b == s.element then Element
    else if b == s.terminator then Terminator
    else if is_data_byte b then Data
    else Invalid

-- the byte after this one is released
abbrev pub releases : Token → Bool
releases Release = true
releases Data = false
releases Component = false
releases Element = false
releases Terminator = false
releases Invalid = false

-- the byte stays inside the segment and releases nothing
abbrev pub stays_unreleased : Token → Bool
stays_unreleased Data = true
stays_unreleased Component = true
stays_unreleased Element = true
stays_unreleased Release = false
stays_unreleased Terminator = false
stays_unreleased Invalid = false
