-- What bytes stand for, as functions of the bytes. A flag says whether the first byte is released.
use Rattle.std.specs.Prelude.{ℕ, zero, suc, ◌+◌, Bool, true, false, not, ◌&&◌, ◌||◌, ◌==◌, List, [], ◌∷◌, take, drop, Option, None, Some, if◌then◌else◌}
use Rattle.std.specs.{Option.{option_map, option_map_or}, List.list_all}
use Rattle.edi_syntax.specs.{Characters.{is_tag_byte, is_break}, Tokens.{token_of, releases}, Text.Content, declared.characters.Service.Service}
use Rattle.edi_syntax.specs.{declared.token.Token.Token, declared.token.Token.TheVariants.{Data, Release, Component, Element, Terminator, Invalid}}

-- one byte more in front of the first value
abbrev pub push_byte : ℕ → List (List (List ℕ)) → List (List (List ℕ))
push_byte b [] = []
push_byte b ([] ∷ elements) = [] ∷ elements
push_byte b ((value ∷ values) ∷ elements) = ((b ∷ value) ∷ values) ∷ elements

-- an empty value in front of the first element's
abbrev pub push_value : List (List (List ℕ)) → List (List (List ℕ))
push_value [] = []
push_value (values ∷ elements) = ([] ∷ values) ∷ elements

-- an element of one empty value in front
abbrev pub push_element : List (List (List ℕ)) → List (List (List ℕ))
push_element elements = ([] ∷ []) ∷ elements

abbrev pub with_token : Token → ℕ → List (List (List ℕ)) → List (List (List ℕ))
with_token Data b elements = push_byte b elements
with_token Release b elements = elements
with_token Component b elements = push_value elements
with_token Element b elements = push_element elements
with_token Terminator b elements = push_byte b elements
with_token Invalid b elements = push_byte b elements

-- the elements that bytes stand for, parted by the element separator
unfoldable pub elements_of : Service → Bool → List ℕ → List (List (List ℕ))
elements_of s released [] = ([] ∷ []) ∷ []
elements_of s released (b ∷ bytes) =
    let token = token_of s released b in with_token token b (elements_of s (releases token) bytes)

-- the bytes have neither a terminator nor an invalid byte, and no release character that releases nothing
abbrev pub stays_inside : Token → Bool
stays_inside Data = true
stays_inside Release = true
stays_inside Component = true
stays_inside Element = true
stays_inside Terminator = false
stays_inside Invalid = false

unfoldable pub are_elements : Service → Bool → List ℕ → Bool
are_elements s released [] = not released
are_elements s released (b ∷ bytes) =
    let token = token_of s released b in stays_inside token && are_elements s (releases token) bytes

-- how many bytes stand before the first terminator, if none of them is invalid
abbrev pub with_end : Token → Option ℕ → Option ℕ
with_end Data end = option_map suc end
with_end Release end = option_map suc end
with_end Component end = option_map suc end
with_end Element end = option_map suc end
with_end Terminator end = Some 0
with_end Invalid end = None

unfoldable pub end_of : Service → Bool → List ℕ → Option ℕ
end_of s released [] = None
end_of s released (b ∷ bytes) =
    let token = token_of s released b in with_end token (end_of s (releases token) bytes)

-- the elements begin with an element separator, if there are any
abbrev pub begins_elements : Service → List ℕ → Bool
begins_elements s [] = true
begins_elements s (b ∷ bytes) = b == s.element || b == s.terminator

-- how many bytes the segment at the front has before its terminator
abbrev pub body_len : Service → List ℕ → Option ℕ
body_len s bytes =
    if list_all is_tag_byte (take 3 bytes) && begins_elements s (drop 3 bytes)
    then option_map (λ n. 3 + n) (end_of s false (drop 3 bytes))
    else None

-- the segment that the bytes before a terminator stand for
abbrev pub content_of : Service → List ℕ → Content
content_of s body = record { tag = take 3 body; elements = drop 1 (elements_of s false (drop 3 body)) }

-- how many CR and LF stand at the front
abbrev pub breaks_len : List ℕ → ℕ
breaks_len [] = 0
breaks_len (b ∷ bytes) = if is_break b then suc (breaks_len bytes) else 0

-- the segment at the front, and what stands after it and the line breaks after it
abbrev pub next_at : Service → List ℕ → Option (Content × List ℕ)
next_at s bytes =
    option_map (λ n. (content_of s (take n bytes), drop (breaks_len (drop (n + 1) bytes)) (drop (n + 1) bytes)))
    (body_len s bytes)

-- The segments from the front on, as far as there are any. The first `skip` bytes belong to the one before.
unfoldable pub segments_from : Service → ℕ → List ℕ → List Content
segments_from s skip [] = []
segments_from s (suc skip) (b ∷ bytes) = segments_from s skip bytes
segments_from s zero (b ∷ bytes) =
    option_map_or (λ n. content_of s (take n (b ∷ bytes)) ∷ segments_from s (n + breaks_len (drop n bytes)) bytes)
    (body_len s (b ∷ bytes)) []

-- there is nothing but segments
unfoldable pub are_segments_from : Service → ℕ → List ℕ → Bool
are_segments_from s skip [] = true
are_segments_from s (suc skip) (b ∷ bytes) = are_segments_from s skip bytes
are_segments_from s zero (b ∷ bytes) =
    option_map_or (λ n. are_segments_from s (n + breaks_len (drop n bytes)) bytes) (body_len s (b ∷ bytes)) false

abbrev pub segments_of : Service → List ℕ → List Content
segments_of s bytes = segments_from s 0 bytes

abbrev pub are_segments : Service → List ℕ → Bool
are_segments s bytes = are_segments_from s 0 bytes
