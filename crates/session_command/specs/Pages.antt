-- What the page server answers.
use Rattle.std.specs.Prelude.{ℕ, List, [], ◌∷◌, ◌++◌, ◌+◌, ◌==◌, Option, Some, None, is_some, option_map, slice_get, take, drop, length, codes, if◌then◌else◌}
use Rattle.std.specs.Fmt.{decimal}
use Rattle.std.specs.List.{after_first, before_first, position_from}
use Rattle.std.specs.Str.{bytes_eq}
use Rattle.session.specs.declared.pages.Page.{Page}

-- ---- what is asked for

-- the bytes before the first space, or all
abbrev pub word_of : List ℕ → List ℕ
word_of text = before_first (λ b. b == 32) text

-- and those behind it
abbrev pub behind_word : List ℕ → List ℕ
behind_word text = after_first (λ b. b == 32) text

-- What a head asks for, with its query, where its method is GET (RFC 9112, section 3).
abbrev pub asked_path : List ℕ → Option (List ℕ)
asked_path head = if bytes_eq (word_of head) (codes "GET") then Some (word_of (behind_word head)) else None

-- the place of the first page of a path
abbrev pub place_of : List ℕ → List Page → Option ℕ
place_of path pages = position_from (λ (page : Page). bytes_eq page.path path) 0 pages

-- ---- what is answered (RFC 9112, sections 4 and 5)

abbrev pub status_line : ℕ → List ℕ
status_line status = codes "HTTP/1.1 " ++ (decimal status ++ codes " \r\nconnection: close\r\n")

abbrev pub fields_text : List ℕ → ℕ → List ℕ
fields_text media length = codes "content-type: " ++ (media ++ (codes "\r\ncontent-length: " ++ (decimal length ++ codes "\r\n\r\n")))

abbrev pub page_text : Page → List ℕ
page_text page = status_line page.status ++ (fields_text page.media (length page.body) ++ page.body)

abbrev pub not_found : List ℕ
not_found = codes "HTTP/1.1 404 Not Found\r\ncontent-length: 0\r\nconnection: close\r\n\r\n"

abbrev pub text_of : Option Page → List ℕ
text_of None = not_found
text_of (Some page) = page_text page

abbrev pub text_at : Option ℕ → List Page → List ℕ
text_at None pages = not_found
text_at (Some place) pages = text_of (slice_get pages place)

-- the first page of the path, if a page is asked for and there is one
abbrev pub response : Option (List ℕ) → List Page → List ℕ
response None pages = not_found
response (Some path) pages = text_at (place_of path pages) pages

-- ---- what is left for further requests

abbrev pub pages_behind : List ℕ → Option ℕ → List Page → List Page
pages_behind path None pages = pages
pages_behind path (Some place) pages = if is_some (place_of path (drop (place + 1) pages)) then take place pages ++ drop (place + 1) pages else pages

-- The first page of the path is taken away where another page of the path stands behind it.
abbrev pub pages_after : Option (List ℕ) → List Page → List Page
pages_after None pages = pages
pages_after (Some path) pages = pages_behind path (place_of path pages) pages
